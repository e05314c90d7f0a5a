-- A decoder by which each value that fits comes back from its sector, and from no other, gives what is asked of a kind.
use Rattle.std.proofs.Common.{◌≡◌, ℕ, ◌<◌, List, length, get_or, Some, Option, sym, ap, ◌∙◌}
use Rattle.layout.specs.Padded.{Decodes}

module _ {X : Type 0} (Fits : X → Type 0) (encode : X → List ℕ) (decode : List ℕ → Option X) where
  abbrev pub Round : Type 0
  Round = (x : X) → Fits x → decode (encode x) ≡ Some x

  abbrev pub Exact : Type 0
  Exact = (s : List ℕ) (x : X) → length s ≡ 512 → ((k : ℕ) → get_or s k 0 < 256) → decode s ≡ Some x → Fits x × (s ≡ encode x)

  pub decodes : Round → Exact → {s : List ℕ} {r : Option X} → length s ≡ 512 → ((k : ℕ) → get_or s k 0 < 256) → r ≡ decode s → Decodes Fits encode s r
  decodes round exact {s} {r} long small is = record { round = λ x fits at. is ∙ ap decode at ∙ round x fits; exact = λ x e. exact s x long small (sym is ∙ e) }
