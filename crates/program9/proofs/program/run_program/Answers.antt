use Rattle.std.proofs.Common.{◌≡◌, ℕ, inl, inr, List, map, Option, refl}
use Rattle.std.specs.Fn.{FnOnceReturnsAt, FnReturnsAt}
use Rattle.std.specs.String.{string_bytes}
use Rattle.clap.specs.declared.error.Error.{Error as ClapError}
use Rattle.words9.specs.declared.task.NoValue.{NoValue}
use Rattle.words9.specs.declared.task.WordsFault.{WordsFault}
use Rattle.words9.specs.declared.task.WordsFault.TheVariants as words
use Rattle.words9.specs.Words.{AsksVersion, IsNoTask, IsNoValueOf, MayAskVersion, joined}
use Rattle.program9.specs.declared.ending.End.{End}
use Rattle.program9.specs.Judging.{Promise}
use Rattle.program9.specs.Program.{EndsWithout, EndsWords, Streams}
use Rattle.program9.proofs.program.run_program.Goals as goal

-- the end on words that give no task
ends_words : {R S W : Type 0} (makes : Promise) (streams : Streams R S W) (given : List (List ℕ)) (out : W) (fault : WordsFault) (told : End) (now : Option (List ℕ))
    → ((o : Option ClapError) → fault ≡ words.Usage o → IsNoTask given × ¬ (AsksVersion given)) → (fault ≡ words.Version → MayAskVersion given)
    → ((v : NoValue) → fault ≡ words.NoValue v → IsNoValueOf given v) → EndsWithout fault (streams.contents out) told now → EndsWords makes streams given out told now
ends_words makes streams given out (words.Usage o) told now usage version no_value (is, kept) = rw is (let none = usage o refl in (none.0, none.1, kept))
ends_words makes streams given out words.Version told now usage version no_value (outcome, is, tells) = rw is (inr (inl (version refl, tells)))
ends_words makes streams given out (words.NoValue text) told now usage version no_value (is, kept) = rw is (no_value text refl, kept)
ends_words makes streams given out words.NoMemory told now usage version no_value (is, kept) = rw is (inl (refl, kept))

pub returns-in-Ok-read_words : goal.returns-in-Ok-read_words
returns-in-Ok-read_words g c = rw c.in-Ok.is (inr (inr (c.in-Ok-read_words.task, c.in-Ok-read_words.ensures.task, c.carry_out-end.ensures)))

pub returns-in-Err-read_words : goal.returns-in-Err-read_words
returns-in-Err-read_words g c = rw c.in-Ok.is (ends_words {R = g.row.R.Denot} {S = g.row.S.Denot} {W = g.row.W.Denot} g.M.Maker.makes
    (record {
      opens = FnOnceReturnsAt g.F.FnOnce c.args.opener;
      coming = g.R.Read.remaining;
      opens_sheet = FnReturnsAt g.G.Fn c.args.sheet_opener;
      coming_sheet = g.S.Read.remaining;
      contents = g.W.Write.contents;
    })
    (joined (map (λ s. string_bytes s) c.in-Ok.words.items)) c.args.out c.in-Err-read_words.fault c.end_without-in-Err-read_words.result.0
    (g.W.Write.contents c.end_without-in-Err-read_words.result.1)
    (λ o is. c.in-Err-read_words.ensures.usage o (cc)) (λ is. c.in-Err-read_words.ensures.version (cc))
    (λ v is. c.in-Err-read_words.ensures.no_value v (cc)) c.end_without-in-Err-read_words.ensures)
