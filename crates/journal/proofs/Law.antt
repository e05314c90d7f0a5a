-- The history of every run of a journal is lawful.
--     along            it is, and book, memory and disk are tied
--     law-stands       it is
--     recover-law      so it is with a recovery that goes on from it
use Rattle.std.proofs.Common.{◌≡◌, ℕ, List, [], ◌∷◌, ◌++◌, length, Result, sym, refl, subst}
use Rattle.disk.specs.Sectors.{DiskState}
use Rattle.geometry.specs.Places.{data_start}
use Rattle.journal.proofs.ChangeSteps.{change-does, format-does}
use Rattle.journal.proofs.DataSteps.{data-does, lose-does, forget-does}
use Rattle.journal.proofs.ForceSteps.{force-does, shut-does, force-owed, shut-owed}
use Rattle.journal.proofs.Owing.{Tie}
use Rattle.journal.proofs.RecoverSteps.{recover-does}
use Rattle.journal.specs.Books.{Book, Event, recovered, opened, fed, all_fed, Allowed, Lawful}
use Rattle.journal.specs.Calls.{RecoverDoes}
use Rattle.journal.specs.Runs.{Run, given, formats, changes, forces, shuts, recovers, writes-data, spoils, forgets, LawStands}
use Rattle.journal.specs.declared.inner.Inner.{Inner}
use Rattle.refusal.specs.declared.Refusal.{Refusal}

fed-push : (S : ℕ) (b : Book) (h : List Event) (e : Event) → all_fed S b (h ++ e ∷ []) ≡ fed S (all_fed S b h) e
fed-push S b [] e = refl
fed-push S b (x ∷ h) e = fed-push S (fed S b x) h e

lawful-push : (S : ℕ) (b : Book) (h : List Event) (e : Event) → Lawful S b h → Allowed (all_fed S b h) e → Lawful S b (h ++ e ∷ [])
lawful-push S b [] e l a = (a, tt)
lawful-push S b (x ∷ h) e l a = (l.0, lawful-push S (fed S b x) h e l.1 a)

module _ (T : ℕ) (images : List (List ℕ)) where
  abbrev P : ℕ
  P = length images

  abbrev S : ℕ
  S = data_start P T

  abbrev book : List Event → Book
  book h = all_fed S (opened images) h

  abbrev Stands : List Event → Inner → DiskState → Type 0
  Stands h i d = Lawful S (opened images) h × Tie P T (book h) i d

  on : (h : List Event) (e : Event) (i j : Inner) (d k : DiskState) → Stands h i d → Allowed (book h) e → Tie P T (fed S (book h) e) j k → Stands (h ++ e ∷ []) j k
  on h e i j d k s a t = (lawful-push S (opened images) h e s.0 a, subst (λ (b : Book). Tie P T b j k) (sym (fed-push S (opened images) h e)) t)

  along : (h : List Event) (i : Inner) (d : DiskState) → Run T images h i d → Stands h i d
  along _ j e (formats i _ d _ f) = (tt, format-does T images i j d e f)
  along _ j e (changes {h} i _ d _ page bytes r run f) = let s = along h i d run in on h _ i j d e s tt (change-does P T (book h) page bytes i j d e r f s.1)
  along _ j e (forces {h} i _ d _ r run f) = let s = along h i d run in on h _ i j d e s (force-owed P T (book h) i j d e r f s.1) (force-does P T (book h) i j d e r f s.1)
  along _ j e (shuts {h} i _ d _ r run f) = let s = along h i d run in on h _ i j d e s (shut-owed P T (book h) i j d e r f s.1) (shut-does P T (book h) i j d e r f s.1)
  along _ j e (recovers {h} i _ d _ r run f) = let s = along h i d run in let g = recover-does P T (book h) i j d e r f s.1 in on h _ i j d e s g.0 g.1
  along _ j e (writes-data {h} i _ d _ s bytes r run f) = let z = along h i d run in on h _ i j d e z tt (data-does P T (book h) s bytes i j d e r f z.1)
  along _ j e (spoils {h} i d _ s a run f) = let z = along h i d run in on h _ i j d e z tt (lose-does P T (book h) s i d e a f z.1)
  along _ j e (forgets {h} i _ d _ run down still) = let z = along h i d run in on h _ i j d e z tt (forget-does P T (book h) i j d e down still z.1)

pub law-stands : LawStands
law-stands T images h i d run = (along T images h i d run).0

pub recover-law : (r : Result (Unit {0}) Refusal) (i j : Inner) (d e : DiskState) → RecoverDoes i d r j e → (T : ℕ) (images : List (List ℕ)) (h : List Event) → Run T images h i d
    → Lawful (data_start (length images) T) (opened images) (h ++ recovered e.power (given (length images) j r) ∷ [])
recover-law r i j d e f T images h run = law-stands T images (h ++ recovered e.power (given (length images) j r) ∷ []) j e (recovers i j d e r run f)
