-- Keywords and signs, and how they are spelled.
use Rattle.std.specs.Prelude.{ℕ, List, codes}
use Rattle.script_tokens.specs.declared.kind.Kind.{Kind}
use Rattle.script_tokens.specs.declared.kind.Kind.TheVariants.{Show, Set, Print, Solve, Test, Equal, Subset, Check, Loop, When, Do, Int, Real, Exists, Forall, And, Or, Not, True, False, Mod, Equivalent, Becomes, Unequal, AtMost, AtLeast, Implies, Open, Close, Comma, Colon, Semicolon, Times, Plus, Minus, Slash, Equals, Below, Above}

-- how each is spelled
abbrev pub spelled : Kind → List ℕ
spelled Show = codes "show"
spelled Set = codes "set"
spelled Print = codes "print"
spelled Solve = codes "solve"
spelled Test = codes "test"
spelled Equal = codes "equal"
spelled Subset = codes "subset"
spelled Check = codes "check"
spelled Loop = codes "loop"
spelled When = codes "when"
spelled Do = codes "do"
spelled Int = codes "int"
spelled Real = codes "real"
spelled Exists = codes "exists"
spelled Forall = codes "forall"
spelled And = codes "and"
spelled Or = codes "or"
spelled Not = codes "not"
spelled True = codes "true"
spelled False = codes "false"
spelled Mod = codes "mod"
spelled Equivalent = codes "<->"
spelled Becomes = codes ":="
spelled Unequal = codes "!="
spelled AtMost = codes "<="
spelled AtLeast = codes ">="
spelled Implies = codes "->"
spelled Open = codes "("
spelled Close = codes ")"
spelled Comma = codes ","
spelled Colon = codes ":"
spelled Semicolon = codes ";"
spelled Times = codes "*"
spelled Plus = codes "+"
spelled Minus = codes "-"
spelled Slash = codes "/"
spelled Equals = codes "="
spelled Below = codes "<"
spelled Above = codes ">"

-- a number for each, by which they are told apart
abbrev pub number_of : Kind → ℕ
number_of Show = 0
number_of Set = 1
number_of Print = 2
number_of Solve = 3
number_of Test = 4
number_of Equal = 5
number_of Subset = 6
number_of Check = 7
number_of Loop = 8
number_of When = 9
number_of Do = 10
number_of Int = 11
number_of Real = 12
number_of Exists = 13
number_of Forall = 14
number_of And = 15
number_of Or = 16
number_of Not = 17
number_of True = 18
number_of False = 19
number_of Mod = 20
number_of Equivalent = 21
number_of Becomes = 22
number_of Unequal = 23
number_of AtMost = 24
number_of AtLeast = 25
number_of Implies = 26
number_of Open = 27
number_of Close = 28
number_of Comma = 29
number_of Colon = 30
number_of Semicolon = 31
number_of Times = 32
number_of Plus = 33
number_of Minus = 34
number_of Slash = 35
number_of Equals = 36
number_of Below = 37
number_of Above = 38
