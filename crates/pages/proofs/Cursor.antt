-- What a buffer holds after bytes were put into it one after the other.
--     next             bytes put behind those that are there
--     last             bytes put behind them, up to the buffer's end
use Rattle.std.proofs.Common.{◌≡◌, ℕ, ◌-◌, ◌≤◌, List, ◌++◌, length, drop, ap, ◌∙◌, ap₂, arith, append_assoc, sym}
use borrow.Rule.Slice.PartMut.{put_mid}
use Rattle.std.proofs.lemmas.List.{take_at, drop_at, drop_all, length-append, append-nil}

pub next : (s t bytes : List ℕ) (a k : ℕ) → length s ≡ a → put_mid a k (s ++ t) bytes ≡ (s ++ bytes) ++ drop k t
next s t bytes a k l = ap₂ (λ x y. x ++ (bytes ++ drop k y)) (take_at s t a l) (drop_at s t a l) ∙ sym (append_assoc s bytes (drop k t))

pub last : (s t bytes : List ℕ) (a : ℕ) → length s ≡ a → put_mid a (length (s ++ t) - a) (s ++ t) bytes ≡ s ++ bytes
last s t bytes a l =
    let n : length t ≤ length (s ++ t) - a = simp length-append (omega arith) in
    next s t bytes a (length (s ++ t) - a) l ∙ ap (λ x. (s ++ bytes) ++ x) (drop_all (length (s ++ t) - a) t n) ∙ append-nil (s ++ bytes)
