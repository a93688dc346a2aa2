-- The text of an error: one line of printable ASCII, without a line feed at its end.
use Rattle.std.specs.Prelude.{ℕ, List, ◌++◌, codes, flat_map, encode_utf8_all, string_bytes}
use Rattle.std.specs.Char.Escape.{escape_ascii}
use Rattle.std.specs.Fmt.{decimal}
use Rattle.sheet9.specs.declared.refusal.EntryFault.{EntryFault}
use Rattle.sheet9.specs.declared.refusal.EntryFault.TheVariants.{NotTwoBytes, Reply, Sense, Listed, HasEffect, NotOfTransport, BeginsNothing, NoGoal, NotForgotten, NotLost, NoText, NameCharacter, NameStart, NameLength, NameBlanks, NoModes, EmptyModes, NoReplies, EmptyList, ForgetsMore, NamedTwice}
use Rattle.sheet9.specs.declared.refusal.ItemFault.{ItemFault}
use Rattle.sheet9.specs.declared.refusal.ItemFault.TheVariants.{NoMode, NoReply, Command}
use Rattle.sheet9.specs.declared.refusal.Refusal.{Refusal}
use Rattle.sheet9.specs.declared.refusal.Refusal.TheVariants.{NotToml, UnknownKey, NoTable, Entry, Item}
use Rattle.sheet9.specs.declared.refusal.TableName.{TableName}
use Rattle.sheet9.specs.declared.refusal.TableName.TheVariants.{Forgets, Goals, Loses, Names, Passes, Replies, Runs}
use Rattle.sheet9.specs.declared.refusal.SheetError.{SheetError}
use Rattle.sheet9.specs.declared.refusal.SheetError.TheVariants as error

-- a byte of a key as `escape_ascii` writes it: itself where it is printable ASCII, but for ', " and \, and else behind a backslash
abbrev pub escaped : ℕ → List ℕ
escaped byte = encode_utf8_all (escape_ascii byte)

-- a key or a name of a sheet, in quotes
abbrev pub quoted : List ℕ → List ℕ
quoted text = codes "\"" ++ flat_map escaped text ++ codes "\""

-- the name of a table
abbrev pub name_of : TableName → List ℕ
name_of Forgets = codes "forgets"
name_of Goals = codes "goals"
name_of Loses = codes "loses"
name_of Names = codes "names"
name_of Passes = codes "passes"
name_of Replies = codes "replies"
name_of Runs = codes "runs"

-- a text is no name of a mode
abbrev pub no_mode : List ℕ
no_mode = codes "not STOP, PLAY, REC, FF, REW, SHUTTLE, JOG, VAR, CUED or EJECT"

-- what is wrong with an entry
abbrev pub words_of : EntryFault → List ℕ
words_of NotTwoBytes = codes "not two bytes in hexadecimal, as \"20 61\""
words_of Reply = codes "groups 1 and 7 are a deck's replies, not commands"
words_of Sense = codes "a listed sense request: it changes nothing"
words_of Listed = codes "a listed command: it has its name"
words_of HasEffect = codes "a listed command: the rules say where it leads"
words_of NotOfTransport = codes "a command of another group than 2 leads to no mode"
words_of BeginsNothing = codes "a command of another group than 2 begins nothing"
words_of NoGoal = no_mode
words_of NotForgotten = codes "not \"nothing\", \"motion\", \"registers\", \"tape\" or \"everything\""
words_of NotLost = codes "not \"points\" or \"registers\""
words_of NoText = codes "not a text, as \"FULL EE ON\""
words_of NameCharacter = codes "a name has only A to Z, 0 to 9, blanks, +, - and /"
words_of NameStart = codes "a name begins with a letter"
words_of NameLength = codes "a name has no more than 24 characters"
words_of NameBlanks = codes "a name has no blank at its end, and no two together"
words_of NoModes = codes "not a list of modes, as [\"SHUTTLE\", \"JOG\"]"
words_of NoReplies = codes "not a list of replies, as [\"74 08\", \"7* 21\"]"
words_of EmptyModes = codes "an empty list: at least one mode is wanted"
words_of EmptyList = codes "an empty list: at least one reply is wanted"
words_of ForgetsMore = codes "[forgets] has another word for it than \"nothing\" and \"registers\""
words_of NamedTwice = codes "named twice"

-- what is wrong with a text in a list
abbrev pub words_of_item : ItemFault → List ℕ
words_of_item NoMode = no_mode
words_of_item NoReply = codes "no reply, as \"74 08\" or \"7* 21\""
words_of_item Command = codes "no reply: groups 0, 2, 4 and 6 are a controller's commands"

-- the text of a refusal
abbrev pub text_of : Refusal → List ℕ
text_of (NotToml line) = codes "line " ++ decimal line ++ codes ": not TOML"
text_of (UnknownKey key) =
    quoted (string_bytes key) ++ codes ": unknown key: only [forgets], [goals], [loses], [names], [passes], [replies] and [runs] are read"
text_of (NoTable table) = codes "\"" ++ name_of table ++ codes "\": not a table"
text_of (Entry table key fault) = codes "[" ++ name_of table ++ codes "] " ++ quoted (string_bytes key) ++ codes ": " ++ words_of fault
text_of (Item table key item fault) =
    codes "[" ++ name_of table ++ codes "] " ++ quoted (string_bytes key) ++ codes ": " ++ quoted (string_bytes item) ++ codes " is "
    ++ words_of_item fault

-- the text of an error
abbrev pub error_text : SheetError → List ℕ
error_text (error.Refused refusal) = text_of refusal
error_text error.OutOfMemory = codes "out of memory"
