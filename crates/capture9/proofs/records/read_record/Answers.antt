-- What `csv` says of the bytes that are left, said of the CSV records that are left.
use Rattle.capture9.proofs.CsvLemmas.{read-takes}
use Rattle.capture9.proofs.records.read_record.Goals as goal
use Rattle.std.proofs.lemmas.Result.{IfOk-weaker}

pub returns-clause-next : goal.returns-clause-next
returns-clause-next g c =
    IfOk-weaker c.read_fields.result _ _
    (λ found read. read-takes g.R.Read.remaining c.args.reader.now c.read_fields.new.reader found _ c.requires (read c.requires.trim c.requires.ready))
    c.read_fields.ensures.reads
