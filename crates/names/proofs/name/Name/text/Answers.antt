use Rattle.std.proofs.Common.{◌≡◌, ℕ, Result, Ok, Err, List, take, true, sym, ap, ◌∙◌, subst, rules}
use Rattle.std.specs.Result.{IsOk, MatchResult}
use Rattle.std.specs.Str.{IsUtf8}
use Rattle.std.proofs.lemmas.Str.{IsUtf8-from_ascii}
use Rattle.names.specs.Names.{GoodName, filled, is_name, text_of}
use Rattle.names.proofs.Texts.{text-back}
use Rattle.names.proofs.name.Name.text.Goals as goal

-- A result whose error cannot be.
no-error : {T E : Type 0} (r : Result T E) (P : T → Type 0) (Q : E → Type 0) → MatchResult r P Q → ((e : E) → Q e → ⊥) → IsOk r
no-error (Ok x) P Q m never = search rules
no-error (Err e) P Q m never = absurd (never e m)

pub unwrap-requires : goal.unwrap-requires
unwrap-requires c =
    let bytes = c.args.self.now.bytes in
    let h : is_name bytes ≡ true = search rules in
    let text : IsUtf8 (take c.text_length.result bytes) = rw c.text_length.ensures.value (IsUtf8-from_ascii (text_of bytes) (text-back bytes h).2) in
    no-error c.from_utf8.result _ _ c.from_utf8.ensures.cases (λ e w. w.0 text)

pub returns : goal.returns
returns c =
    let bytes = c.args.self.now.bytes in
    let h : is_name bytes ≡ true = search rules in
    let whole : c.unwrap.result.now ≡ take c.text_length.result bytes = search rules in
    let same : c.unwrap.result.now ≡ text_of bytes = whole ∙ ap (λ n. take n bytes) c.text_length.ensures.value in
    let P : List ℕ → Type 0 = λ text. GoodName text × (bytes ≡ filled text) in
    let t = text-back bytes h in
    let back = subst P (sym same) (t.0, t.1) in
    record { value = same; good = back.0; whole = back.1 }
