-- What the head and the end of a record say.
--     length-numbers       as many page numbers as pages
--     head-said            its head says its number and its page numbers
--     end-said             its end says its number and how many pages
use Rattle.std.proofs.Common.{◌≡◌, ℕ, suc, ◌<◌, [], ◌∷◌, List, length, refl, ap, arith}
use Rattle.thirds.specs.Words.{end, end_bytes, head, head_bytes, word_of}
use Rattle.thirds.specs.Records.{Numbered, Page, Rec, many, numbers}
use Rattle.thirds.proofs.Words.{few, says-end, says-head}

pub length-numbers : (ps : List Page) → length (numbers ps) ≡ length ps
length-numbers [] = refl
length-numbers (p ∷ ps) = ap suc (length-numbers ps)

pub head-said : (P : ℕ) (r : Rec) → 0 < many r → Numbered P r → word_of P (head_bytes r.number (numbers r.pages)) ≡ head r.number (numbers r.pages)
head-said P r some num = says-head P r.number (numbers r.pages) num.few num.small num.rising (omega (arith, length-numbers r.pages))

pub end-said : (P : ℕ) (r : Rec) → Numbered P r → word_of P (end_bytes r.number (many r)) ≡ end r.number (many r)
end-said P r num = says-end P r.number (many r) num.small (omega (arith, length-numbers r.pages, num.few, few 0 P (numbers r.pages) (omega arith) num.rising))
