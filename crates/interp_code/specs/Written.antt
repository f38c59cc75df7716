-- The lines of a text, part by part as they are written.
use Rattle.std.specs.Prelude.{◌≡◌, true, List, ◌++◌, ℤ, map}
use Rattle.std.specs.List.{list_all}
use Rattle.ladder_tree.specs.Names.{is_name_within}
use Rattle.ladder_tree.specs.declared.names.Names.{Names}
use Rattle.interp_code.specs.Line.{Line, Input, Output, Analog, Relay, Persistent}
use Rattle.interp_code.specs.Text.{variables}

-- the lines of all names, with a start value for each variable
abbrev pub name_lines : Names → List ℤ → List Line
name_lines names starts =
    map Input names.inputs ++ (map Output names.outputs ++ (map Analog names.analog
    ++ (variables names.variables starts ++ (map Relay names.relays ++ map Persistent names.persistent))))

-- each is a name
pub record AreNames (names : Names) : Type 0 where
  pub inputs : list_all (is_name_within 66) names.inputs ≡ true
  pub outputs : list_all (is_name_within 66) names.outputs ≡ true
  pub analogs : list_all (is_name_within 66) names.analog ≡ true
  pub variables : list_all (is_name_within 66) names.variables ≡ true
  pub relays : list_all (is_name_within 66) names.relays ≡ true
  pub persistent : list_all (is_name_within 66) names.persistent ≡ true
