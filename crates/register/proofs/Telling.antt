-- Changes, one after another, against what their list says.
--     remove-none      taking out a key that is not there leaves the entries as they are
--     taken, kept      what carrying out a change leaves: a key's entry taken out or none, and a key to be put in that is there
--     refused, granted     what carrying out a change leaves, by whether it was refused
--     stopped              a change that is refused is refused on the same pages
use Rattle.std.proofs.Common.{◌≡◌, ℕ, true, false, cond, is_some, List, [], ◌∷◌, map, length, Some, None, Ok, Err, Option, Result, sym, refl, ap, ◌∙◌, subst, arith}
use Rattle.std.proofs.lemmas.Bool.{cases_Bool}
use Rattle.std.specs.Result.{is_err}
use Rattle.refusal.specs.declared.Refusal.{Refusal}
use Rattle.names.specs.Orders.{before}
use Rattle.names.specs.declared.key.Key.{Key}
use Rattle.rows.specs.Lists.{insert, remove, look_up}
use Rattle.pages.specs.Writes.{wrote}
use Rattle.pages.specs.declared.records.Entry.{Entry}
use Rattle.register.specs.Images.{key_of, entry, entries_of, put_writes, take_writes}
use Rattle.register.specs.Registers.{IsRegister}
use Rattle.register.specs.Calls.{TakesOut}
use Rattle.register.specs.Changes.{changed, Refuses, Carries}
use Rattle.register.specs.declared.replay.Change.{Change}
use Rattle.register.specs.declared.replay.Change.TheVariants.{Put, Take}

pub remove-none : (k : List ℕ) (es : List Entry) → look_up key_of before k es ≡ None → remove key_of before k es ≡ es
remove-none k [] h = refl
remove-none k (e ∷ es) h = let r = remove-none k es in grind (arith, cases_Bool (before e.key k), cases_Bool (before k e.key))

module _ {X : Type 0} (image : X → List ℕ) (written : X → List ℕ → X) (pages after : List X) (register : IsRegister (length pages) (map image pages)) where
  nothing : pages ≡ wrote written [] pages
  unfolding wrote
  nothing = refl

  -- a key's entry taken out, or none
  pub taken : (key : Key) (r : Option Entry) → TakesOut image written key.bytes pages r after → Carries image written (Take key) pages (Ok tt) after
  taken key (Some e) h = (
    h.2,
    h.3,
    h.1 ∙ ap (λ o. wrote written (cond (is_some o) (take_writes key.bytes (map image pages)) []) pages) (sym h.0),
  )
  taken key None h = (
    subst (λ l. IsRegister (length pages) (map image l)) (sym h.1) register,
    ap (λ l. entries_of (map image l)) h.1 ∙ sym (remove-none key.bytes (entries_of (map image pages)) h.0),
    h.1 ∙ nothing ∙ ap (λ o. wrote written (cond (is_some o) (take_writes key.bytes (map image pages)) []) pages) (sym h.0),
  )

  module _ (key : Key) (start size : ℕ) where
    -- a key that is there is not put in again
    pub kept : is_some (look_up key_of before key.bytes (entries_of (map image pages))) ≡ true → after ≡ pages → Carries image written (Put key start size) pages (Ok tt) after
    kept there same = (
      subst (λ l. IsRegister (length pages) (map image l)) (sym same) register,
      ap (λ l. entries_of (map image l)) same
          ∙ ap (λ b. cond b (entries_of (map image pages)) (insert key_of before (entry key.bytes start size) (entries_of (map image pages)))) (sym there),
      same ∙ nothing ∙ ap (λ b. wrote written (cond b [] (put_writes (length pages) (entry key.bytes start size) (map image pages))) pages) (sym there),
    )

module _ {X : Type 0} (image : X → List ℕ) (written : X → List ℕ → X) (c : Change) (pages after : List X) where
  pub refused : (r : Result (Unit {0}) Refusal) → Carries image written c pages r after → is_err r ≡ true → Refuses (length pages) (map image pages) c × (after ≡ pages)
  refused (Ok _) h e = absurd (let z : ◌≡◌ {A = ℕ} 0 1 = cc in omega arith)
  refused (Err x) h e = (h.1, h.2)

  pub granted : (r : Result (Unit {0}) Refusal) → Carries image written c pages r after → is_err r ≡ false
      → IsRegister (length pages) (map image after) × (entries_of (map image after) ≡ changed c (entries_of (map image pages)))
  granted (Ok _) h e = (h.0, h.1)
  granted (Err x) h e = absurd (let z : ◌≡◌ {A = ℕ} 0 1 = cc in omega arith)

pub stopped : {X : Type 0} (image : X → List ℕ) {pages now after : List X} {P : ℕ} {c d : Change} → after ≡ now → now ≡ pages → length pages ≡ P → c ≡ d → Refuses (length pages) (map image pages) c → Refuses P (map image after) d
stopped image {pages = pages} {after = after} {d = d} left same long is because = subst (λ n. Refuses n (map image after) d) long (subst (λ ps. Refuses (length pages) (map image ps) d) (sym (left ∙ same)) (subst (Refuses (length pages) (map image pages)) is because))
