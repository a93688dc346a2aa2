use Rattle.text9.proofs.numbers.+put_grouped.Given as goal

-- each call inside has one comma less to put
abbrev pub decreases-put_grouped : goal.decreases-put_grouped
decreases-put_grouped l = l.commas
