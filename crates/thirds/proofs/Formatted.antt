-- A formatted volume is up.
--     formatted-up      with an empty log, whose first number will be 1
use Rattle.std.proofs.Common.{ap, ◌∙◌, subst, inr, arith}
use Rattle.thirds.specs.Words.{Calm, says}
use Rattle.thirds.specs.Volumes.{FormattedUp}
use Rattle.thirds.proofs.Words.{says-anchor}
use Rattle.thirds.proofs.HomeWrites.{not-lost}
use Rattle.geometry.specs.declared.third.Third.TheVariants.{Zero}

pub formatted-up : FormattedUp
formatted-up P T N X σ k =
    let said = says-anchor P Zero 1 (omega arith) in
    record {
      good = k.good;
      headers = k.headers;
      anchors = (ap (says P) k.anchors.0 ∙ said, ap (says P) k.anchors.1 ∙ said);
      small = omega arith;
      core = record { laid = tt; whole = tt; named = tt; pictured = λ i l. (inr (k.homes i l).0, inr (k.homes i l).1) };
      marks = record { of-heads = λ u m ns e. absurd (subst Calm e (k.no-record u)); of-ends = λ u m n e. absurd (subst Calm e (k.no-record u)) };
      sides = (λ i l e. not-lost e (k.homes i l).0, λ i l e. not-lost e (k.homes i l).1);
      calm = k.calm;
    }
