-- What is known of an entry that was found.
--     kept, kept-is    an entry, if it passes a test, and that this is what `filter` answers
--     Found        what holds of the entry, if there is one
--     either       of one entry or else another
--     both         of each entry two facts
--     last-there       the highest entry not above a key is one of the list, and not above the key
use Rattle.std.proofs.Common.{◌≡◌, ℕ, Bool, true, false, cond, List, [], ◌∷◌, Some, None, Option, refl, ap, ◌∙◌}
use Rattle.std.specs.Bool.{then_some}
use Rattle.std.specs.Option.{MatchOption}
use Rattle.std.specs.List.{AllByRecursion}
use Rattle.std.proofs.lemmas.Bool.{cond_both}
use Rattle.names.specs.Orders.{before}
use Rattle.rows.specs.Lists.{last_up_to, or_else}
use Rattle.pages.specs.declared.records.Entry.{Entry}
use Rattle.register.specs.Images.{key_of}

abbrev pub kept : (Entry → Bool) → Option Entry → Option Entry
kept p None = None
kept p (Some e) = cond (p e) (Some e) None

some-if : (b : Bool) (e : Entry) → then_some b e ≡ cond b (Some e) None
some-if true e = refl
some-if false e = refl

pub kept-is : (p : Entry → Bool) (o r : Option Entry) (R : Entry → Bool → Type 0) → MatchOption o (r ≡ None) (λ e. (b : Bool) × R e b × (r ≡ then_some b e)) → ((e : Entry) (b : Bool) → R e b → b ≡ p e) → r ≡ kept p o
kept-is p None r R h f = h
kept-is p (Some e) r R h f = h.2 ∙ some-if h.0 e ∙ ap (λ b. cond b (Some e) None) (f e h.0 h.1)

abbrev pub Found : (Entry → Type 0) → Option Entry → Type 0
Found P None = Unit {0}
Found P (Some e) = P e

pub either : (P : Entry → Type 0) (o : Option Entry) (e : Entry) → Found P o → P e → Found P (or_else o (Some e))
either P None e f p = p
either P (Some x) e f p = f

pub both : (P Q : Entry → Type 0) (es : List Entry) → AllByRecursion P es → AllByRecursion Q es → AllByRecursion (λ e. P e × Q e) es
both P Q [] a b = tt
both P Q (e ∷ es) a b = ((a.0, b.0), both P Q es a.1 b.1)

pub last-there : (P : Entry → Type 0) (k : List ℕ) (es : List Entry) → AllByRecursion P es → Found (λ e. P e × (before k e.key ≡ false)) (last_up_to key_of before k es)
last-there P k [] a = tt
last-there P k (e ∷ es) a =
    let Q : Entry → Type 0 = λ e. P e × (before k e.key ≡ false) in
    cond_both (before k e.key) None (or_else (last_up_to key_of before k es) (Some e)) (Found Q) (λ _. tt) (λ p. either Q (last_up_to key_of before k es) e (last-there P k es a.1) (a.0, p))
