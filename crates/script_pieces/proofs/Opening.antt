-- Bytes that do not tell how their piece ends, and pieces that are refused.
use Rattle.std.proofs.Common.{◌≡◌, ℕ, ◌≤◌, false, List, ◌++◌, refl, arith, Option, Some, None, IfSome}
use Rattle.std.proofs.lemmas.List.{length-append}
use Rattle.std.specs.Io.KnownBytes.{prepend_known}
use Rattle.script_pieces.specs.Cuts.{statement_length, piece_length}
use Rattle.script_pieces.specs.Limits.{IsRefused}
use Rattle.script_pieces.specs.Taking.{Progress, IsOpen}
use Rattle.script_pieces.specs.Answers.{IsTooLong, IsFailure}
use Rattle.script_pieces.specs.declared.errors.PieceError.{PieceError}
use Rattle.script_pieces.specs.declared.errors.PieceError.TheVariants.{Read, StatementBytes, ScriptBytes}
use Rattle.script_pieces.proofs.Cutting.{stable, piece_more}

-- fewer bytes tell no more
pub open_earlier : (given : ℕ) (x y : List ℕ) → IsOpen (record { given = given; held = x ++ y }) → IsOpen (record { given = given; held = x })
open_earlier given x y h = record {
  unended = by (statement_length false x) refl;
  within = record { statement = omega (arith, length-append x y, h.within.statement); script = omega (arith, length-append x y, h.within.script) };
}
  where
    by : (o : Option ℕ) → statement_length false x ≡ o → statement_length false x ≡ None
    by None e = e
    by (Some n) e = let f = stable false x y n e in let g = h.unended in absurd (cc)

pub refused_longer : (e : PieceError) (given n m : ℕ) → n ≤ m → IsRefused e given n → IsRefused e given m
refused_longer Read given n m l h = h
refused_longer StatementBytes given n m l h = record { reached = omega (arith, h.reached); first = h.first }
refused_longer ScriptBytes given n m l h = record { reached = omega (arith, h.reached); first = h.first }

-- a piece that is refused as far as it is held is refused as it stands in the script
pub too_long : (e : PieceError) (p : Progress) (left : Option (List ℕ)) → IsRefused e p.given (piece_length p.held) → IsTooLong e p left
too_long e p left h = record { held = h; ahead = by left }
  where
    by : (known : Option (List ℕ)) → IfSome (prepend_known p.held known) (λ bytes. IsRefused e p.given (piece_length bytes))
    by None = tt
    by (Some xs) = refused_longer e p.given (piece_length p.held) (piece_length (p.held ++ xs)) (piece_more p.held xs) h

-- the cause of a refusal for a piece's length
pub refusal : (e : PieceError) (p : Progress) (left : Option (List ℕ)) (before after : ℕ) → IsRefused e p.given (piece_length p.held) → IsFailure e p left before after
refusal Read p left before after h = absurd h
refusal StatementBytes p left before after h = too_long StatementBytes p left h
refusal ScriptBytes p left before after h = too_long ScriptBytes p left h
