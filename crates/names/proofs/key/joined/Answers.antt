use Rattle.std.proofs.Common.{◌++◌, [], ◌∷◌, drop, ap₂, ◌∙◌}
use Rattle.std.proofs.lemmas.List.{take_at, drop_at}
use Rattle.names.proofs.key.joined.Goals as goal

pub returns : goal.returns
returns c =
    let front = c.copy_from_slice in
    let back = c.copy_from_slice-2.ensures.after ∙ c.to_be_bytes.ensures in
    ap₂ (λ a b. a ++ b)
    (take_at front.new.self (0 ∷ 0 ∷ []) 20 front.ensures.len ∙ front.ensures.after)
    (ap₂ (λ a b. a ++ drop 2 b) back (drop_at front.new.self (0 ∷ 0 ∷ []) 20 front.ensures.len))
