-- Document 01, "The reader": what a reader's calls can answer.
use Rattle.std.specs.Prelude.{Result}
use Rattle.vpa.specs.ReaderComputed as vpa
use Rattle.vpa.specs.ReaderComputed.{going, accepted, unfinished, stop_at}
use Rattle.table.specs.Answers.{Answer, told}
use Rattle.table.specs.declared.refusal.Refusal.{Refusal}
use Rattle.reader.specs.declared.Heard.{Heard}
use Rattle.reader.specs.declared.Heard.TheVariants as heard

-- What the answers of the code mean, Stop with its place.
abbrev pub heard_meant : Heard → vpa.Heard
heard_meant heard.Going = going
heard_meant heard.Accepted = accepted
heard_meant heard.Unfinished = unfinished
heard_meant (heard.Stop place) = stop_at place

-- Of every call of the reader: what is answered, or the refusal's number.
abbrev pub heard_as : Result Heard Refusal → Answer vpa.Heard
heard_as = told heard_meant
