use Rattle.script_tokens.proofs.Places.{inside, rising}
use Rattle.script_tokens.proofs.places_are_inside.Goals as goal

pub returns : goal.returns
returns c = record { within = inside; rising = rising }
