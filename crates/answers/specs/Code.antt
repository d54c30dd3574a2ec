-- Not to be believed: what the code keeps to; the proofs check it.
-- How a word of bytes and the numbers of tables are read, and an answer put into a buffer of any length.
use Rattle.std.specs.Prelude.{◌≡◌, List, ℕ, ◌≤◌, length, take, Option, Some, None}
use Rattle.texts.specs.declared.Page.{Page}
use Rattle.texts.specs.Bytes.{bytes, malformed}
use Rattle.cells.specs.Netlist.{Netlist}
use Rattle.files.specs.Read.{netlist}
use Rattle.files.specs.File.{file_bytes}
use Rattle.verdicts.specs.declared.Answer.{Answer}
use Rattle.netlist_entries.specs.Files.{write_verdict, Filed}
use Rattle.texts.specs.Puts.{Writes}
use Rattle.answers.specs.Tables.{these, no_tables}
use Rattle.answers.specs.Questions.{bytes_in, numbers_in}
use Rattle.answers.specs.Texts.{written_text}
use Rattle.answers.specs.Questions.{Question}
use Rattle.answers.specs.Answering.{Answers}

abbrev pub Decodes : List ℕ → Option ℕ → List ℕ → Type 0
Decodes word (Some n) out' = bytes_in word ≡ bytes (take n out')
Decodes word None out' = bytes_in word ≡ malformed

abbrev pub Tabled : List ℕ → Option ℕ → List ℕ → Type 0
Tabled word (Some n) numbers' = (n ≤ length numbers') × (numbers_in word ≡ these (take n numbers'))
Tabled word None numbers' = numbers_in word ≡ no_tables

-- a netlist's file, or none, was printed, with what writing it to a lent buffer answers
pub record FileSaid (w : Netlist) (accepted : Answer) (lent : List ℕ) (p p' : Page) : Type 0 where
  pub answer : Answer
  pub left : List ℕ
  pub filed : Filed (netlist w) accepted answer lent left
  pub written : Writes (written_text (write_verdict (netlist w) (file_bytes w) lent) answer (file_bytes w)) p p'

-- the answer is written on the page
pub record Says (q : Question) (p p' : Page) : Type 0 where
  pub text : List ℕ
  pub answers : Answers q text
  pub written : Writes text p p'
