-- The exchange before a record that breaks a rule.
use Rattle.std.specs.Prelude.{◌≡◌, Option, Some, None, List, [], ◌∷◌, ◌++◌}
use Rattle.capture9.specs.declared.line_byte.LineByte.{LineByte}
use Rattle.block9.specs.declared.exchange.Exchange.{Exchange}
use Rattle.block9.specs.Line.{last_time}
use Rattle.report9.specs.declared.why_no.EndedExchange.{EndedExchange}

-- what is told of these records before a break, which are cut into these exchanges and open ones: where one is open nothing,
-- and else the last exchange, if there is one, with the time of its last record
abbrev pub IsBefore : List LineByte → List Exchange → List LineByte → Option EndedExchange → Type 0
IsBefore records exchanges (r ∷ tail) told = told ≡ None
IsBefore records exchanges [] None = exchanges ≡ []
IsBefore records exchanges [] (Some last) =
    (first : List Exchange) × (exchanges ≡ first ++ last.exchange ∷ []) × (last.end_us ≡ last_time records)
