-- Steps carried out one after the other, of either kind.
--     Carried          they add an event for each of them to every run that leads to them
--     chain-push       a chain and one step more
--     carried-none     no step adds none
--     carried-more     one step more adds one more
--     carried-law      and the history with them is lawful
use Rattle.std.proofs.Common.{ℕ, List, [], ◌∷◌, ◌++◌, length, refl, sym, subst}
use Rattle.std.proofs.lemmas.List.{append-nil, append_assoc}
use Rattle.disk.specs.Sectors.{DiskState}
use Rattle.geometry.specs.Places.{data_start}
use Rattle.journal.proofs.Law.{law-stands}
use Rattle.journal.specs.Books.{Event, opened, Lawful}
use Rattle.journal.specs.Runs.{Run}
use Rattle.journal.specs.declared.inner.Inner.{Inner}
use Rattle.replay.specs.Replays.{Chain, Each}
use Rattle.replay.specs.declared.steps.Outcome.{Outcome}

module _ {S : Type 0} (tells : ℕ → S → Outcome → Event → Type 0) where
  each-push : (P : ℕ) (ss : List S) (os : List Outcome) (es : List Event) (s : S) (o : Outcome) (e : Event) → Each (tells P) ss os es → tells P s o e → Each (tells P) (ss ++ s ∷ []) (os ++ o ∷ []) (es ++ e ∷ [])
  each-push P [] [] [] s o e a t = (t, tt)
  each-push P (x ∷ ss) (y ∷ os) (z ∷ es) s o e a t = (a.0, each-push P ss os es s o e a.1 t)
  each-push P [] [] (z ∷ es) s o e a t = absurd a
  each-push P [] (y ∷ os) es s o e a t = absurd a
  each-push P (x ∷ ss) [] es s o e a t = absurd a
  each-push P (x ∷ ss) (y ∷ os) [] s o e a t = absurd a

  abbrev pub Carried : List S → List Outcome → Inner → DiskState → Inner → DiskState → Type 0
  Carried ss os i d j e = (T : ℕ) (images : List (List ℕ)) (h : List Event) → Run T images h i d → (es : List Event) × Each (tells (length images)) ss os es × Run T images (h ++ es) j e

  abbrev pub One : S → Outcome → Inner → DiskState → Inner → DiskState → Type 0
  One s o i d j e = (T : ℕ) (images : List (List ℕ)) (h : List Event) → Run T images h i d → (v : Event) × tells (length images) s o v × Run T images (h ++ v ∷ []) j e

  pub carried-none : (i : Inner) (d : DiskState) → Carried [] [] i d i d
  carried-none i d T images h run = ([], tt, subst (λ (x : List Event). Run T images x i d) (sym (append-nil h)) run)

  pub carried-more : (ss : List S) (os : List Outcome) (s : S) (o : Outcome) (i k j : Inner) (d c e : DiskState) → Carried ss os i d k c → One s o k c j e → Carried (ss ++ s ∷ []) (os ++ o ∷ []) i d j e
  carried-more ss os s o i k j d c e a b T images h run =
      let (es, each, on) = a T images h run in
      let (v, tell, further) = b T images (h ++ es) on in
      (es ++ v ∷ [], each-push (length images) ss os es s o v each tell, subst (λ (x : List Event). Run T images x j e) (append_assoc h es (v ∷ [])) further)

  pub carried-law : (ss : List S) (os : List Outcome) (i j : Inner) (d e : DiskState) → Carried ss os i d j e → (T : ℕ) (images : List (List ℕ)) (h : List Event) → Run T images h i d
      → (es : List Event) × Each (tells (length images)) ss os es × Run T images (h ++ es) j e × Lawful (data_start (length images) T) (opened images) (h ++ es)
  carried-law ss os i j d e a T images h run = let (es, each, on) = a T images h run in (es, each, on, law-stands T images (h ++ es) j e on)

module _ {S : Type 0} (does : S → Outcome → Inner → DiskState → Inner → DiskState → Type 0) where
  pub chain-push : (ss : List S) (os : List Outcome) (s : S) (o : Outcome) (i k j : Inner) (d c e : DiskState) → Chain does ss os i d k c → does s o k c j e → Chain does (ss ++ s ∷ []) (os ++ o ∷ []) i d j e
  chain-push [] [] s o i k j d c e (same, still) h = (j, e, subst (λ (x : Inner). does s o x d j e) same (subst (λ (y : DiskState). does s o k y j e) still h), (refl, refl))
  chain-push (x ∷ ss) (y ∷ os) s o i k j d c e (m, n, a, rest) h = (m, n, a, chain-push ss os s o m k j n c e rest h)
  chain-push [] (y ∷ os) s o i k j d c e a h = absurd a
  chain-push (x ∷ ss) [] s o i k j d c e a h = absurd a
