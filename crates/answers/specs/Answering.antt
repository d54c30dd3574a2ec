-- What is answered: to each question the text of what its entry answers.
use Rattle.std.specs.Prelude.{ℕ, ◌≤◌, min, ◌≡◌, List, length, take}
use Rattle.bits.specs.Bits.{has}
use Rattle.sheet.specs.Read.{read_sheet}
use Rattle.rules.specs.States.{at_rest}
use Rattle.files.specs.Read.{read_file}
use Rattle.verdicts.specs.declared.Answer.{Answer}
use Rattle.verdicts.specs.declared.Reaction.{Reaction}
use Rattle.verdicts.specs.Runs.{Once}
use Rattle.sheet_entries.specs.Sheets.{reading_of, Checked, Fitting, ReactedMany}
use Rattle.netlist_entries.specs.Netlists.{NetChecked, NetReactedMany}
use Rattle.netlist_entries.specs.Files.{file_of, write_verdict}
use Rattle.compile_entries.specs.Compile.{sheet_net, Written}
use Rattle.cover_entries.specs.Covers.{CoverChecked}
use Rattle.covers.specs.Covers.{table_at}
use Rattle.tables.specs.declared.Reordered.{Reordered}
use Rattle.tables.specs.Reordering.{Reorders}
use Rattle.texts.specs.Written.{bad_text}
use Rattle.answers.specs.Questions.{Question, room}
use Rattle.answers.specs.Questions.{rest, read, check, file, fits, write, react, reactfile, cover, order, none}
use Rattle.answers.specs.Texts.{rest_text, reading_text, answer_text, written_text, reaction_text, order_text}

-- "that many bytes are lent, 8,192 where it is more"
abbrev pub Lends : ℕ → List ℕ → Type 0
Lends n buffer = length buffer ≡ min n room

pub data Answers : Question → List ℕ → Type 0 where
  no_question : Answers none bad_text
  is_rest : {state : ℕ} → Answers (rest state) (rest_text (at_rest (has state)))
  is_read : {s : List ℕ} → Answers (read s) (reading_text (reading_of (read_sheet s)))
  is_checked : {s : List ℕ} {r : Answer} → Checked s r → Answers (check s) (answer_text r)
  is_file : {s : List ℕ} {r : Answer} → NetChecked (read_file s) r → Answers (file s) (answer_text r)
  does_fit : {s : List ℕ} {state : ℕ} {r : Answer} → Fitting s state r → Answers (fits s state) (answer_text r)
  is_written : {s buffer buffer' : List ℕ} {n : ℕ} {r : Answer} → Lends n buffer → (w : Written s r buffer buffer')
      → Answers (write s n)
      (written_text (write_verdict (sheet_net w.outcome) (file_of (sheet_net w.outcome)) buffer) r (file_of (sheet_net w.outcome)))
  reacts : {s : List ℕ} {state event : ℕ} {r : Reaction} → Once (ReactedMany s) state event r
      → Answers (react s state event) (reaction_text r)
  file_reacts : {s : List ℕ} {state event : ℕ} {r : Reaction} → Once (NetReactedMany (read_file s)) state event r
      → Answers (reactfile s state event) (reaction_text r)
  is_covered : {s tables : List ℕ} {r : Answer} → CoverChecked (read_file s) tables r → Answers (cover s tables) (answer_text r)
  is_ordered : {n : ℕ} {table : List ℕ} {r : Reordered} → Reorders n (table_at table 0) r → Answers (order n table) (order_text r)

-- The longest answer has four numbers of 20 digits, and a file in hex of as many bytes as are lent at most. That none is longer is proved.
abbrev pub longest_answer : ℕ
longest_answer = 16512

-- the answer is the buffer's first bytes
pub record Told (q : Question) (n : ℕ) (out' : List ℕ) : Type 0 where
  pub answers : Answers q (take n out')
  pub within : n ≤ length out'
