-- Runs of a journal: a format, and then any calls, each doing just what its contract says.
--     now_images     the image of each page now
--     given          a recovery's answer, with the images that it gave
--     Run            a history of events, and the memory and the disk that it may lead to
--     LawStands      the history of every run is lawful
use Rattle.std.specs.Prelude.{◌≡◌, ℕ, List, [], ◌∷◌, ◌++◌, length, map, take, Ok, Err, Result}
use Rattle.disk.specs.Faults.{Answer}
use Rattle.disk.specs.Sectors.{DiskState}
use Rattle.disk.specs.Rules.{Spoils}
use Rattle.geometry.specs.Places.{data_start}
use Rattle.journal.specs.Books.{Event, changed, forced, shut, recovered, data-written, spoiled, forgot, opened, Lawful}
use Rattle.journal.specs.Calls.{ChangeDoes, ForceDoes, ShutDoes, RecoverDoes, DataDoes}
use Rattle.journal.specs.Formats.{FormatDoes}
use Rattle.journal.specs.declared.inner.Inner.{Inner}
use Rattle.journal.specs.declared.inner.State.TheVariants.{Down}
use Rattle.refusal.specs.declared.Refusal.{Refusal}

abbrev pub now_images : ℕ → Inner → List (List ℕ)
now_images P i = map (λ f. f.now) (take P i.frames)

abbrev pub given : ℕ → Inner → Result (Unit {0}) Refusal → Result (List (List ℕ)) Refusal
given P i (Ok _) = Ok (now_images P i)
given P i (Err x) = Err x

-- the format's third and images
pub data Run (T : ℕ) (images : List (List ℕ)) : List Event → Inner → DiskState → Type 0 where
  formats : (i j : Inner) (d e : DiskState) → FormatDoes T images i d (Ok tt) j e → Run T images [] j e
  changes : {h : List Event} (i j : Inner) (d e : DiskState) (page : ℕ) (bytes : List ℕ) (r : Result (Unit {0}) Refusal) → Run T images h i d → ChangeDoes page bytes i d r j e → Run T images (h ++ changed page bytes r ∷ []) j e
  forces : {h : List Event} (i j : Inner) (d e : DiskState) (r : Result ℕ Refusal) → Run T images h i d → ForceDoes i d r j e → Run T images (h ++ forced r ∷ []) j e
  shuts : {h : List Event} (i j : Inner) (d e : DiskState) (r : Result (Unit {0}) Refusal) → Run T images h i d → ShutDoes i d r j e → Run T images (h ++ shut r ∷ []) j e
  recovers : {h : List Event} (i j : Inner) (d e : DiskState) (r : Result (Unit {0}) Refusal) → Run T images h i d → RecoverDoes i d r j e → Run T images (h ++ recovered e.power (given (length images) j r) ∷ []) j e
  writes-data : {h : List Event} (i j : Inner) (d e : DiskState) (s : ℕ) (bytes : List ℕ) (r : Result (Unit {0}) Refusal) → Run T images h i d → DataDoes s bytes i d r j e → Run T images (h ++ data-written s bytes r ∷ []) j e
  spoils : {h : List Event} (i : Inner) (d e : DiskState) (s : ℕ) (a : Answer) → Run T images h i d → Spoils s d a e → Run T images (h ++ spoiled s a ∷ []) i e
  forgets : {h : List Event} (i j : Inner) (d e : DiskState) → Run T images h i d → j.state ≡ Down → e.sectors ≡ d.sectors → Run T images (h ++ forgot ∷ []) j e

abbrev pub LawStands : Type 0
LawStands = (T : ℕ) (images : List (List ℕ)) (h : List Event) (i : Inner) (d : DiskState) → Run T images h i d → Lawful (data_start (length images) T) (opened images) h
