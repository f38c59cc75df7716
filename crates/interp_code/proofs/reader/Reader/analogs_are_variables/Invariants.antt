use Rattle.std.proofs.Common.{◌≡◌, drop, map}
use Rattle.interp_code.specs.Program.{are_in}
use Rattle.texts.specs.Keys.{keys_of}
use Rattle.interp_code.proofs.reader.Reader.analogs_are_variables.Given as goal

abbrev pub invariant-loop-name : goal.invariant-loop-name
invariant-loop-name l =
    are_in (keys_of l.self.variables) (map (λ k. k.now) (drop l.name-index l.name-items)) ≡ are_in (keys_of l.self.variables) (keys_of l.self.analogs)
