use Rattle.judge9.proofs.Words.{refl, sym}
use Rattle.judge9.proofs.InTime.{none_in_parts, times_in_time}
use Rattle.judge9.proofs.RetimedSteps.{ends_untimed}
use Rattle.judge9.proofs.RetimedParts.{parts_retimed, totals_retimed}
use Rattle.judge9.proofs.RetimedRecords.{retimed_len}
use Rattle.judge9.proofs.laws.a_late_reply_is_nothing_else.Goals as goal

pub returns-clause-same : goal.returns-clause-same
returns-clause-same c profile items others broken left last totals parts part past all are retimed =
    let (same, behind, end, are_parts, is_last, are_same, same_end) = parts_retimed profile (record { past = 0; records = items }) left (record { past = 0; records = others }) broken last parts
    (record { is_part = part; past = past; has_all = all }) (refl, retimed) in
    let counted = totals_retimed items others broken same last end totals (retimed_len items others retimed) are_same same_end are in
    (same, behind, end, are_parts, is_last.is_part, is_last.past, is_last.has_all, are_same, same_end, counted)

pub returns-clause-known : goal.returns-clause-known
returns-clause-known c profile es fs h s = (ends_untimed profile es fs h s, ends_untimed profile fs es (sym h) s)

pub returns-clause-in_time : goal.returns-clause-in_time
returns-clause-in_time c profile items broken left last parts part all none =
    none_in_parts profile items none (record { past = 0; records = items }) left broken last refl parts part all

pub returns-clause-there_is_one : goal.returns-clause-there_is_one
returns-clause-there_is_one c = times_in_time
