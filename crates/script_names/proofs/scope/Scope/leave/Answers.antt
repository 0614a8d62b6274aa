use Rattle.std.proofs.Common.{sym, ap, ◌∙◌, take, map}
use Rattle.std.proofs.lemmas.List.{take-map}
use Rattle.script_names.proofs.Lists.{entry_of}
use Rattle.script_names.proofs.scope.Scope.leave.Goals as goal

pub returns : goal.returns
returns c = ap (map entry_of) c.truncate.ensures.entries ∙ sym (take-map entry_of c.args.count c.self.inside.names.entries) ∙ ap (take c.args.count) c.self.view_is
