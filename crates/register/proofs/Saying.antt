-- What a list of changes leaves of entries in order, key by key.
--     changed-sorted       a change leaves them in order
--     changed-says         a change leaves of a key what it says
--     told-says            and so do changes, one after another
--     looked-up            what is looked up in the entries that changes make of none is what they say
use Rattle.std.proofs.Common.{◌≡◌, ℕ, true, false, cond, is_some, List, [], ◌∷◌, Some, None, Option, refl, ap, ◌∙◌, subst}
use Rattle.std.specs.Cmp.Lexicographic.{bytes_decides}
use Rattle.std.proofs.lemmas.Bool.{cond_both}
use Rattle.names.specs.Orders.{before}
use Rattle.names.specs.declared.key.Key.{Key}
use Rattle.names.proofs.ByteOrder.{keys-ordered}
use Rattle.rows.specs.Lists.{insert, remove, Sorted, look_up, or_else}
use Rattle.rows.proofs.Sorting.{sorted_insert, sorted-remove}
use Rattle.rows.proofs.LookUps.{look_up-insert_same, look_up-insert_other, look_up-remove_same, look_up-remove_other}
use Rattle.pages.specs.declared.records.Entry.{Entry}
use Rattle.register.specs.Images.{key_of, entry}
use Rattle.register.specs.Changes.{changed, told}
use Rattle.register.specs.Said.{of_key, says, said_from, said}
use Rattle.register.specs.declared.replay.Change.{Change}
use Rattle.register.specs.declared.replay.Change.TheVariants.{Put, Take}
use Rattle.register.proofs.SortedEntries.{register-sorted}

same-key : (k : List ℕ) (key : Key) → of_key k key ≡ true → key.bytes ≡ k
same-key k key p = (bytes_decides key.bytes k).0 p

other-key : (k : List ℕ) (key : Key) → of_key k key ≡ false → key.bytes ≡ k → ⊥
other-key k key p q = let t = (bytes_decides key.bytes k).1 q in cc

-- one more entry, if its key is not there
abbrev added : Entry → List Entry → List Entry
added e es = cond (is_some (look_up key_of before e.key es)) es (insert key_of before e es)

added-sorted : (e : Entry) (es : List Entry) → Sorted key_of before es → Sorted key_of before (added e es)
added-sorted e es s =
    let there = look_up key_of before e.key es in
    cond_both (is_some there) es (insert key_of before e es) (Sorted key_of before) (λ _. s) (λ n. sorted_insert key_of before keys-ordered e es s (elim there as (λ v. is_some v ≡ false → v ≡ None) [ Some x ↦ λ q. cc | None ↦ λ q. refl ] n))

pub changed-sorted : (c : Change) (es : List Entry) → Sorted key_of before es → Sorted key_of before (changed c es)
changed-sorted (Put key start length) es s = added-sorted (entry key.bytes start length) es s
changed-sorted (Take key) es s = sorted-remove key_of before keys-ordered key.bytes es s

added-at : (e : Entry) (es : List Entry) (o : Option Entry) → look_up key_of before e.key es ≡ o → look_up key_of before e.key (cond (is_some o) es (insert key_of before e es)) ≡ or_else o (Some e)
added-at e es (Some x) h = h
added-at e es None h = look_up-insert_same key_of before keys-ordered e es h

added-same : (e : Entry) (es : List Entry) → look_up key_of before e.key (added e es) ≡ or_else (look_up key_of before e.key es) (Some e)
added-same e es = added-at e es (look_up key_of before e.key es) refl

added-other : (k : List ℕ) (e : Entry) (es : List Entry) → (e.key ≡ k → ⊥) → look_up key_of before k (added e es) ≡ look_up key_of before k es
added-other k e es d = cond_both (is_some (look_up key_of before e.key es)) es (insert key_of before e es) (λ l. look_up key_of before k l ≡ look_up key_of before k es) (λ _. refl) (λ _. look_up-insert_other key_of before keys-ordered k e es d)

pub changed-says : (k : List ℕ) (c : Change) (es : List Entry) → Sorted key_of before es → look_up key_of before k (changed c es) ≡ says k (look_up key_of before k es) c
changed-says k (Put key start length) es s =
    let e = entry key.bytes start length in
    let o = look_up key_of before k es in
    cond_both (of_key k key) (or_else o (Some e)) o (λ v. look_up key_of before k (added e es) ≡ v)
    (λ p. subst (λ j. look_up key_of before j (added e es) ≡ or_else (look_up key_of before j es) (Some e)) (same-key k key p) (added-same e es))
    (λ p. added-other k e es (other-key k key p))
changed-says k (Take key) es s =
    let o = look_up key_of before k es in
    cond_both (of_key k key) None o (λ v. look_up key_of before k (remove key_of before key.bytes es) ≡ v)
    (λ p. subst (λ j. look_up key_of before j (remove key_of before key.bytes es) ≡ None) (same-key k key p) (look_up-remove_same key_of before keys-ordered key.bytes es s))
    (λ p. look_up-remove_other key_of before keys-ordered k key.bytes es (other-key k key p) s)

pub told-says : (k : List ℕ) (cs : List Change) (es : List Entry) → Sorted key_of before es → look_up key_of before k (told cs es) ≡ said_from k (look_up key_of before k es) cs
unfolding told said_from
told-says k [] es s = refl
told-says k (c ∷ cs) es s = told-says k cs (changed c es) (changed-sorted c es s) ∙ ap (λ o. said_from k o cs) (changed-says k c es s)

pub looked-up : (k : List ℕ) (cs : List Change) (es : List Entry) → es ≡ told cs [] → look_up key_of before k es ≡ said k cs
looked-up k cs es h = ap (look_up key_of before k) h ∙ told-says k cs [] tt

-- What the check takes up by itself where changes were carried out.
pub ruleset carried = (register-sorted, looked-up)
