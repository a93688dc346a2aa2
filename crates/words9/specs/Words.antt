-- What the words of the command line ask for, by `clap`'s own definition of a command and its words.
use Rattle.std.specs.Prelude.{◌≡◌, List, [], ◌++◌, ◌∷◌, Option, Some, None, codes, find, map, option_map, Bool, true, false, ◌&&◌, ◌||◌, if◌then◌else◌}
use Rattle.std.specs.List.{fold}
use Rattle.std.specs.Borrow.{Bor}
use Rattle.std.specs.Option.{unwrap_or}
use Rattle.std.specs.Str.{bytes_eq}
use Rattle.std.specs.String.{string_bytes}
use Rattle.clap.specs.Words.{App, IsAmong, Row, Rule, Text, all_of, fault_of, first_of, new_app, new_rule, subcommand_of, with_rule, with_subcommand}
use Rattle.clap.specs.declared.builder.action.ArgAction.TheVariants.{Append, SetTrue}
use Rattle.clap.specs.declared.builder.value_parser.ValueParser.TheVariants as parser
use Rattle.clap.specs.declared.error.kind.ErrorKind.TheVariants.{DisplayVersion}
use Rattle.tc25.specs.declared.rate.Rate.{Rate}
use Rattle.tc25.specs.declared.rate.TheConstants.Rate.{ALL as RATES}
use Rattle.tc25.specs.declared.rate.Rate.TheVariants as rate
use Rattle.tc25.specs.Word.{word_of}
use Rattle.deck9.specs.declared.state.Hands.{Hands}
use Rattle.deck9.specs.declared.state.Hands.TheVariants as hands
use Rattle.report9.specs.declared.detail.Detail.{Detail}
use Rattle.report9.specs.declared.detail.Detail.TheVariants.{Bytes, Names}
use Rattle.report9.specs.declared.verdict.Beginning.{Beginning}
use Rattle.report9.specs.declared.verdict.Beginning.TheVariants.{FirstCommand, FirstRecord}
use Rattle.report9.specs.declared.stretch.Stretch.{Stretch}
use Rattle.report9.specs.declared.verdict.Extent.{Extent}
use Rattle.report9.specs.declared.verdict.Extent.TheVariants.{FirstBreak, WholeCapture}
use Rattle.report9.specs.declared.verdict.View.{View}
use Rattle.report9.specs.declared.verdict.View.TheVariants as view
use Rattle.words9.specs.declared.task.Asked.{Asked}
use Rattle.words9.specs.declared.task.Drawing.{Drawing}
use Rattle.words9.specs.declared.task.Export.TheVariants as export
use Rattle.words9.specs.declared.task.ExportWords.{ExportWords}
use Rattle.words9.specs.declared.task.Report.{Report}
use Rattle.words9.specs.declared.task.Made.TheVariants as made
use Rattle.words9.specs.declared.task.NoValue.{NoValue}
use Rattle.words9.specs.declared.task.Report.TheVariants.{Made, Parts, Run, ToBreak}
use Rattle.words9.specs.declared.task.Task.{Task}
use Rattle.report9.specs.declared.time_form.TimeForm.{TimeForm}
use Rattle.report9.specs.declared.time_form.TimeForm.TheVariants as form
use Rattle.words9.specs.declared.task.Verb.{Verb}
use Rattle.words9.specs.declared.task.Verb.TheVariants as verb
use Rattle.words9.specs.Values.{HasNoValue, IsDrawingOf, IsStretchOf}

-- the rate with this name. There is never one that no rate has: the program does not take such words
abbrev pub rate_named : Text → Rate
rate_named name = unwrap_or (find (λ r. bytes_eq name (word_of r)) RATES) rate.Fps25

-- the rate that the option names, and 25 where it is not among the words
abbrev pub rate_of : Option Text → Rate
rate_of (Some name) = rate_named name
rate_of None = rate.Fps25

-- the names of the rates as the program has them: a list in its memory. A rule of `clap` is with its place there, but what `clap`'s
-- definition says of words depends on the names alone. So below one place stands for all
abbrev pub RateNames : Type 0
RateNames = Bor (List (Bor Text))

abbrev pub AreRateNames : RateNames → Type 0
AreRateNames names = map (λ name. name.now) names.now ≡ map word_of RATES

-- a file, which may be left out
abbrev pub file_rule : Text → Rule
file_rule id = new_rule id

-- an option that is there or not: its long name, which is its id too
abbrev pub switch_rule : Text → Rule
switch_rule name = record (new_rule name) { long = Some name; action = Some SetTrue }

-- an option with a value, whatever it is: its id and its long name
abbrev pub value_rule : Text → Text → Rule
value_rule id name = record (new_rule id) { long = Some name; value_names = 1 }

-- the same, and it may be given more than once
abbrev pub values_rule : Text → Text → Rule
values_rule id name = record (value_rule id name) { action = Some Append }

-- an option with one of the names of the rates
abbrev pub rate_rule : RateNames → Rule
rate_rule names = record (value_rule (codes "rate") (codes "rate")) { parser = Some (parser.Names names) }

-- the word of a verb
abbrev pub name_of : Verb → Text
name_of verb.Check = codes "check"
name_of verb.Explain = codes "explain"
name_of verb.Run = codes "run"
name_of verb.Why = codes "why"
name_of verb.Digest = codes "digest"
name_of verb.Delays = codes "delays"
name_of verb.Motion = codes "motion"
name_of verb.Json = codes "json"
name_of verb.JsonCheck = codes "json check"
name_of verb.JsonExplain = codes "json explain"
name_of verb.JsonRun = codes "json run"
name_of verb.JsonWhy = codes "json why"
name_of verb.Clock = codes "clock"
name_of verb.Info = codes "info"
name_of verb.Try = codes "try"
name_of verb.Touches = codes "touches"
name_of verb.Picture = codes "picture"
name_of verb.Page = codes "page"
name_of verb.ConvertSigrok = codes "convert sigrok"
name_of verb.ConvertSaleae = codes "convert saleae"
name_of verb.ConvertLog = codes "convert log"
name_of verb.Split = codes "split"

-- what a subcommand takes that judges, but `try` and `touches`: the file, and the options of the panel, of the capture's beginning, of
-- the rate and of the deck's sheets
abbrev pub judged_rules : RateNames → List Rule
judged_rules names =
    file_rule (codes "FILE") ∷ switch_rule (codes "hands") ∷ switch_rule (codes "sync") ∷ rate_rule names ∷ values_rule (codes "deck") (codes "deck")
    ∷ []

-- what `try` and `touches` take, which are not told whether somebody may have touched the panel: the same without the option of it
abbrev pub handless_rules : RateNames → List Rule
handless_rules names = file_rule (codes "FILE") ∷ switch_rule (codes "sync") ∷ rate_rule names ∷ values_rule (codes "deck") (codes "deck") ∷ []

-- the options that go on after a break, and that hand each line on at once
abbrev pub all_rules : List Rule
all_rules = switch_rule (codes "all") ∷ switch_rule (codes "line-buffered") ∷ []

-- the same, after the option that tells exchanges with their bytes
abbrev pub told_rules : List Rule
told_rules = switch_rule (codes "bytes") ∷ all_rules

-- the options of the stretch that is shown
abbrev pub stretch_rules : List Rule
stretch_rules = value_rule (codes "from") (codes "from") ∷ value_rule (codes "to") (codes "to") ∷ []

-- the options of a picture
abbrev pub picture_rules : List Rule
picture_rules = value_rule (codes "at") (codes "at") ∷ value_rule (codes "width") (codes "width") ∷ []

-- the options of the two sources of an export's bytes. Its ids are none of a report's: so no rows have both
abbrev pub source_rules : List Rule
source_rules = value_rule (codes "controller") (codes "controller") ∷ value_rule (codes "export-deck") (codes "deck") ∷ []

-- the options of the times between which an export is converted
abbrev pub time_rules : List Rule
time_rules = value_rule (codes "export-from") (codes "from") ∷ value_rule (codes "export-to") (codes "to") ∷ []

-- what the subcommand of a verb takes, in the order in which `help` lists it
abbrev pub rules_of : RateNames → Verb → List Rule
rules_of names verb.Check = judged_rules names ++ all_rules
rules_of names verb.Explain = judged_rules names ++ told_rules
rules_of names verb.Run = judged_rules names
rules_of names verb.Why = judged_rules names ++ all_rules ++ switch_rule (codes "quiet") ∷ []
rules_of names verb.Digest = judged_rules names ++ told_rules ++ stretch_rules
rules_of names verb.Delays = judged_rules names ++ told_rules ++ stretch_rules
rules_of names verb.Motion = judged_rules names ++ told_rules ++ stretch_rules
rules_of names verb.Json = judged_rules names ++ told_rules ++ stretch_rules
rules_of names verb.JsonCheck = judged_rules names ++ all_rules ++ stretch_rules
rules_of names verb.JsonExplain = judged_rules names ++ told_rules ++ stretch_rules
rules_of names verb.JsonRun = judged_rules names
rules_of names verb.JsonWhy = judged_rules names ++ all_rules ++ stretch_rules
rules_of names verb.Clock = file_rule (codes "FILE") ∷ switch_rule (codes "seconds") ∷ []
rules_of names verb.Info = file_rule (codes "FILE") ∷ switch_rule (codes "sync") ∷ rate_rule names ∷ []
rules_of names verb.Try = handless_rules names ++ switch_rule (codes "all") ∷ []
rules_of names verb.Touches = handless_rules names
rules_of names verb.Picture = judged_rules names ++ all_rules ++ picture_rules
rules_of names verb.Page = judged_rules names ++ told_rules ++ stretch_rules
rules_of names verb.ConvertSigrok = file_rule (codes "FILE") ∷ value_rule (codes "samplerate") (codes "samplerate") ∷ time_rules
rules_of names verb.ConvertSaleae = file_rule (codes "FILE") ∷ file_rule (codes "DECK-FILE") ∷ source_rules ++ time_rules
rules_of names verb.ConvertLog = file_rule (codes "FILE") ∷ source_rules ++ value_rule (codes "unit") (codes "unit") ∷ switch_rule (codes "live") ∷ time_rules
rules_of names verb.Split = file_rule (codes "FILE") ∷ value_rule (codes "part-name") (codes "to") ∷ value_rule (codes "rows") (codes "rows") ∷ []

-- the subcommand of a verb: its word, and then each of these in turn
abbrev pub app_for : RateNames → Verb → App
app_for names verb = fold with_rule (new_app (name_of verb)) (rules_of names verb)

-- the program, which wants a subcommand, and has a version; its own name is not among the words
abbrev pub top : App
top = record (new_app (codes "ninecheck")) {
  top = record (new_app (codes "ninecheck")).top
      { no_binary_name = true; subcommand_required = true; has_version = true };
}

-- the program with the subcommand of a verb more
abbrev pub with_verb : RateNames → App → Verb → App
with_verb names app verb = with_subcommand app (app_for names verb).top

-- the verbs, in the order in which `help` lists them
abbrev pub verbs : List Verb
verbs =
    verb.Check ∷ verb.Explain ∷ verb.Run ∷ verb.Why ∷ verb.Digest ∷ verb.Delays ∷ verb.Motion ∷ verb.Json ∷ verb.JsonCheck ∷ verb.JsonExplain ∷ verb.JsonRun
    ∷ verb.JsonWhy ∷ verb.Clock ∷ verb.Info ∷ verb.Try ∷ verb.Touches ∷ verb.Picture ∷ verb.Page ∷ verb.ConvertSigrok ∷ verb.ConvertSaleae ∷ verb.ConvertLog
    ∷ verb.Split ∷ []

-- the program with its subcommands
abbrev pub program : RateNames → App
program names = fold (with_verb names) top verbs

-- a report that `json` can be asked for
abbrev pub is_asked : Text → Bool
is_asked word = bytes_eq word (codes "check") || bytes_eq word (codes "explain") || bytes_eq word (codes "run") || bytes_eq word (codes "why")

-- an export that `convert` can be asked for
abbrev pub is_export : Text → Bool
is_export word = bytes_eq word (codes "sigrok") || bytes_eq word (codes "saleae") || bytes_eq word (codes "log")

-- two words that are one subcommand
abbrev pub is_pair : Text → Text → Bool
is_pair first second = (bytes_eq first (codes "json") && is_asked second) || (bytes_eq first (codes "convert") && is_export second)

-- the words as the program takes them: those whose first two are one subcommand have them as one word, with a blank between
abbrev pub joined : List Text → List Text
joined (first ∷ second ∷ rest) = if is_pair first second then ((first ++ codes " ") ++ second) ∷ rest else first ∷ second ∷ rest
joined words = words

-- the program takes the words: they name this verb, and these rows come with it
abbrev pub TakesWords : RateNames → List Text → Verb → List Row → Type 0
TakesWords names words verb rows = (fault_of (program names) words ≡ []) × (subcommand_of (program names) words ≡ Some (name_of verb, rows))

-- the row of an option says `true`: it is among the words
abbrev pub is_on : Option Text → Bool
is_on (Some text) = bytes_eq text (codes "true")
is_on None = false

-- what the view shows: where the words say `--all` of each part, and else to the first break
abbrev pub shown : Bool → View → Report
shown true v = Parts v
shown false v = ToBreak v

-- how an explanation tells each exchange, where the words say `--bytes` or not
abbrev pub detail_of : Bool → Detail
detail_of true = Bytes
detail_of false = Names

-- how far the judging goes, where the words say `--all` or not
abbrev pub extent_of : Bool → Extent
extent_of true = WholeCapture
extent_of false = FirstBreak

-- how times are written, where the words say `--seconds` or not
abbrev pub form_of : Bool → TimeForm
form_of true = form.Seconds
form_of false = form.Clock

-- what a verb makes, where the words say `--all`, `--bytes` and `--seconds` or not
abbrev pub report_of : Verb → Bool → Bool → Bool → Report
report_of verb.Check all bytes seconds = shown all view.Verdict
report_of verb.Explain all bytes seconds = shown all (view.Explain (detail_of bytes))
report_of verb.Run all bytes seconds = Run
report_of verb.Why all bytes seconds = shown all view.Why
report_of verb.Digest all bytes seconds = Made (made.Digest (extent_of all))
report_of verb.Delays all bytes seconds = Made (made.Delays (extent_of all))
report_of verb.Motion all bytes seconds = Made (made.Motion (extent_of all))
report_of verb.Json all bytes seconds = Made (made.Json (view.Explain (detail_of bytes)) (extent_of all))
report_of verb.JsonCheck all bytes seconds = Made (made.Json view.Verdict (extent_of all))
report_of verb.JsonExplain all bytes seconds = Made (made.Json (view.Explain (detail_of bytes)) (extent_of all))
report_of verb.JsonRun all bytes seconds = Made made.JsonRun
report_of verb.JsonWhy all bytes seconds = Made (made.Json view.Why (extent_of all))
report_of verb.Clock all bytes seconds = Made (made.Clock (form_of seconds))
report_of verb.Info all bytes seconds = Made made.Info
report_of verb.Try all bytes seconds = Made (made.Try (extent_of all))
report_of verb.Touches all bytes seconds = Made made.Touches
report_of verb.Picture all bytes seconds = Made (made.Picture (extent_of all))
report_of verb.Page all bytes seconds = Made made.Page
report_of verb.ConvertSigrok all bytes seconds = Made (made.Convert export.Sigrok)
report_of verb.ConvertSaleae all bytes seconds = Made (made.Convert export.Saleae)
report_of verb.ConvertLog all bytes seconds = Made (made.Convert export.Log)
report_of verb.Split all bytes seconds = Made made.Split

-- with which record the judging begins, where the words say `--sync` or not
abbrev pub beginning_of : Bool → Beginning
beginning_of true = FirstCommand
beginning_of false = FirstRecord

-- whether somebody may have touched the panel, where the words say `--hands` or not: of `touches`, which asks where, always
abbrev pub hands_of : Verb → Bool → Hands
hands_of verb.Touches given = hands.Allowed
hands_of _ true = hands.Allowed
hands_of _ false = hands.None

-- all that was given for an argument, in the order of the words
abbrev pub values_of : Text → List Row → List Text
values_of argument rows = unwrap_or (all_of argument rows) []

-- an option is among these rows
abbrev pub has : Text → List Row → Bool
has option rows = is_on (first_of option rows)

-- what a verb asks for with these rows, where this stretch is shown, and this is asked of a picture
abbrev pub asked_of : Verb → List Row → Stretch → Drawing → Asked
asked_of verb rows stretch drawing = record {
  report = report_of verb (has (codes "all") rows) (has (codes "bytes") rows) (has (codes "seconds") rows);
  beginning = beginning_of (has (codes "sync") rows);
  stretch = stretch;
  drawing = drawing;
  line_buffered = has (codes "line-buffered") rows;
  quiet = has (codes "quiet") rows;
}

-- the rows of an export or of a split have this, as it stands among the words
pub record IsExportOf (given : List Row) (export : ExportWords) : Type 0 where
  pub deck_file : option_map string_bytes export.deck_file ≡ first_of (codes "DECK-FILE") given
  pub samplerate : option_map string_bytes export.samplerate ≡ first_of (codes "samplerate") given
  pub controller : option_map string_bytes export.controller ≡ first_of (codes "controller") given
  pub deck : option_map string_bytes export.deck ≡ first_of (codes "export-deck") given
  pub unit : option_map string_bytes export.unit ≡ first_of (codes "unit") given
  pub from : option_map string_bytes export.from ≡ first_of (codes "export-from") given
  pub to : option_map string_bytes export.to ≡ first_of (codes "export-to") given
  pub name : option_map string_bytes export.name ≡ first_of (codes "part-name") given
  pub rows : option_map string_bytes export.rows ≡ first_of (codes "rows") given
  pub live : export.live ≡ has (codes "live") given

-- the program takes the words, and they give this task
pub record GivesTask (names : RateNames) (words : List Text) (task : Task) : Type 0 where
  pub verb : Verb
  pub rows : List Row
  pub takes : TakesWords names words verb rows
  pub asked : task.asked ≡ asked_of verb rows task.asked.stretch task.asked.drawing
  pub stretch : IsStretchOf rows task.asked.stretch
  pub drawing : IsDrawingOf rows task.asked.drawing
  pub file : option_map string_bytes task.file ≡ first_of (codes "FILE") rows
  pub rate : task.rate ≡ rate_of (first_of (codes "rate") rows)
  pub hands : task.hands ≡ hands_of verb (has (codes "hands") rows)
  pub sheets : map (λ s. string_bytes s) task.sheets.items ≡ values_of (codes "deck") rows
  pub export : IsExportOf rows task.export

-- the program takes the words, but for a value that an option can't have
pub record GivesNoValue (names : RateNames) (words : List Text) (v : NoValue) : Type 0 where
  pub verb : Verb
  pub rows : List Row
  pub takes : TakesWords names words verb rows
  pub no_value : HasNoValue rows v

-- it does not take them
abbrev pub GivesNoTask : RateNames → List Text → Type 0
GivesNoTask names words = (verb : Verb) → (rows : List Row) → TakesWords names words verb rows → ⊥

-- the task is the one that the words give
abbrev pub IsTaskOf : List Text → Task → Type 0
IsTaskOf words task = (names : RateNames) × AreRateNames names × GivesTask names words task

-- the words are a command, but for this value of an option
abbrev pub IsNoValueOf : List Text → NoValue → Type 0
IsNoValueOf words v = (names : RateNames) × AreRateNames names × GivesNoValue names words v

-- the program does not take the words
abbrev pub IsNoTask : List Text → Type 0
IsNoTask words = (names : RateNames) × AreRateNames names × GivesNoTask names words

-- the first that stops the program at the words is that they ask for its version
abbrev pub AsksVersion : List Text → Type 0
AsksVersion words = (names : RateNames) → AreRateNames names → fault_of (program names) words ≡ DisplayVersion ∷ []

-- it is among what may be the first, where `clap`'s definition leaves a choice
abbrev pub MayAskVersion : List Text → Type 0
MayAskVersion words = (names : RateNames) × AreRateNames names × IsAmong DisplayVersion (fault_of (program names) words)
