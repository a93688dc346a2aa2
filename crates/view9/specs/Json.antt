-- A line of JSON, by the library's own definition of a text.
use Rattle.std.specs.Prelude.{◌≡◌, ℕ, List, Some}
use Rattle.json.specs.Json.{Members, document, object}

-- the text is one object
abbrev pub IsObject : List ℕ → Type 0
IsObject text = (ms : Members) × (document text ≡ Some (object ms))
