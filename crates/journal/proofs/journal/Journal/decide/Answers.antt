use Rattle.std.proofs.Common.{◌≡◌, rules}
use Rattle.journal.specs.Decisions.{unnumbered}
use Rattle.journal.proofs.Decided.{data-up, recover-down, format-down}
use Rattle.journal.proofs.journal.Journal.decide.Goals as goal

pub returns-in-Up-Data : goal.returns-in-Up-Data
returns-in-Up-Data g c =
    let same : unnumbered c.map-in-Up-Data.result ≡ c.write_data_up.result = search rules in
    record { rule = rw c.in-Up-Data.is-1 (data-up _ _ _ _ same _ _ _ _ _ c.in-Up-Data.is-0 c.write_data_up.ensures.rule); same = c.write_data_up.ensures.same }

pub returns-in-Down-Recover : goal.returns-in-Down-Recover
returns-in-Down-Recover g c =
    let same : unnumbered c.map-in-Down-Recover.result ≡ c.recover_down.result = search rules in
    record { rule = rw c.in-Down-Recover.is-1 (recover-down _ _ _ _ same _ _ c.in-Down-Recover.is-0 c.recover_down.ensures.rule); same = c.recover_down.ensures.same }

pub returns-in-Down-Format : goal.returns-in-Down-Format
returns-in-Down-Format g c =
    let same : unnumbered c.map-in-Down-Format.result ≡ c.format_down.result = search rules in
    record { rule = rw c.in-Down-Format.is-1 (format-down _ _ _ _ same _ _ _ c.in-Down-Format.is-0 c.format_down.ensures.rule); same = c.format_down.ensures.same }
