-- The codes of a run and the lines of refusals. Own.
use Rattle.std.specs.Prelude.{ℕ, ◌⊎◌, List, [], ◌∷◌, ◌++◌, Option, codes}
use Rattle.std.specs.Fmt.{decimal}
use Rattle.lash_io.specs.Faults.{IsFaultCounted}
use Rattle.lash_io.specs.Sinks.{Holds, HoldsPart}
use Rattle.script_names.specs.declared.names.NameFault.{NameFault}
use Rattle.script_names.specs.declared.names.NameFault.TheVariants.{Unknown, Repeated, Misused}
use Rattle.script_meaning.specs.declared.limits.Which.{Which}
use Rattle.script_meaning.specs.declared.limits.Which.TheVariants as limit
use Rattle.lash_command.specs.declared.status.Status.{Status}
use Rattle.lash_command.specs.declared.status.Status.TheVariants as status
use Rattle.lash_command.specs.declared.ending.Refusal.{Refusal}
use Rattle.lash_command.specs.declared.ending.Refusal.TheVariants.{Syntax, Name, Limit, NoPower, Heavy, NotWeak}
use Rattle.lash_command.specs.declared.ending.Ending.{Ending}
use Rattle.lash_command.specs.declared.ending.Ending.TheVariants.{Finished, Usage, Refused, ReadFault, WriteFault, NoMemory, Unbuilt}

-- the code that the program ends with
abbrev pub code_of : Status → ℕ
code_of status.Fine = 0
code_of status.Usage = 1
code_of status.Script = 2
code_of status.TooLarge = 3
code_of status.NoPower = 4
code_of status.NotWeak = 5
code_of status.ReadFault = 6
code_of status.WriteFault = 7
code_of status.NoMemory = 8
code_of status.Unbuilt = 9

-- a wrong syntax or name is a fault of the script, and a limit or a heavy step makes it too large; a loop may have no power, and a set no
-- weak automaton
abbrev pub status_of : Ending → Status
status_of Finished = status.Fine
status_of Usage = status.Usage
status_of (Refused k (Syntax place)) = status.Script
status_of (Refused k (Name fault place)) = status.Script
status_of (Refused k (Limit which)) = status.TooLarge
status_of (Refused k NoPower) = status.NoPower
status_of (Refused k Heavy) = status.TooLarge
status_of (Refused k (NotWeak sign whole stem accept reject)) = status.NotWeak
status_of ReadFault = status.ReadFault
status_of WriteFault = status.WriteFault
status_of NoMemory = status.NoMemory
status_of Unbuilt = status.Unbuilt

abbrev pub fault_words : NameFault → List ℕ
fault_words Unknown = codes "unknown name"
fault_words Repeated = codes "repeated name"
fault_words Misused = codes "misused name"

abbrev pub limit_words : Which → List ℕ
limit_words limit.StatementBytes = codes "statement bytes"
limit_words limit.ScriptBytes = codes "script bytes"
limit_words limit.Nesting = codes "nesting"
limit_words limit.Literal = codes "literal"
limit_words limit.LoopVariables = codes "loop variables"
limit_words limit.Sets = codes "sets"
limit_words limit.Nodes = codes "nodes"
limit_words limit.Depth = codes "depth"
limit_words limit.Coefficient = codes "coefficient"
limit_words limit.Constant = codes "constant"
limit_words limit.Letters = codes "letters"
limit_words limit.Denominator = codes "denominator"
limit_words limit.KeptCells = codes "kept cells"

-- the number of script bytes before what is wrong
abbrev pub place_text : ℕ → List ℕ
place_text place = codes " at byte " ++ decimal place

-- letters in decimal, each after a comma
abbrev pub letters_text : List ℕ → List ℕ
letters_text [] = []
letters_text (l ∷ ls) = (codes "," ++ decimal l) ++ letters_text ls

-- the letters of a word with commas between them
abbrev pub word_text : List ℕ → List ℕ
word_text [] = codes "-"
word_text (l ∷ ls) = decimal l ++ letters_text ls

-- the number of a sign vector, and words over the free variables of the formula whose set is not weak
abbrev pub not_weak_text : ℕ → List ℕ → List ℕ → List ℕ → List ℕ → List ℕ
not_weak_text sign whole stem accept reject = codes "not weak sign " ++ (decimal sign ++ ((codes " whole " ++ word_text whole)
    ++ ((codes " stem " ++ word_text stem) ++ ((codes " accept " ++ word_text accept) ++ (codes " reject " ++ word_text reject)))))

-- what is wrong, and where
abbrev pub refusal_text : Refusal → List ℕ
refusal_text (Syntax place) = codes "syntax" ++ place_text place
refusal_text (Name fault place) = fault_words fault ++ place_text place
refusal_text (Limit which) = codes "limit " ++ limit_words which
refusal_text NoPower = codes "no power"
refusal_text Heavy = codes "heavy"
refusal_text (NotWeak sign whole stem accept reject) = not_weak_text sign whole stem accept reject

-- the statement, and why it is refused
abbrev pub refused_line : ℕ → Refusal → List ℕ
refused_line number refusal = codes "lash: statement " ++ (decimal number ++ (codes ": " ++ (refusal_text refusal ++ codes "\n")))

-- the line that an ending has on the second sink; there is none where all is answered
abbrev pub line_of : Ending → List ℕ
line_of Finished = []
line_of Usage = codes "lash: usage: lash [-b BASE] [-m CELLS] [--gen N]\n"
line_of (Refused number refusal) = refused_line number refusal
line_of ReadFault = codes "lash: read fault\n"
line_of WriteFault = codes "lash: write fault\n"
line_of NoMemory = codes "lash: no memory\n"
line_of Unbuilt = codes "lash: unbuilt\n"

-- the line was written, or a part of it, and then a fault of the second sink was counted
abbrev pub IsReported : List ℕ → Option (List ℕ) → Option (List ℕ) → ℕ → ℕ → Type 0
IsReported line before after faults_before faults_after = Holds before after line ⊎ (IsFaultCounted faults_before faults_after × HoldsPart before after line)
