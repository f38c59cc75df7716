-- What a project keeps that a text stands for: its limits, and that each setting, pin line and element is one that lines can say.
use Rattle.std.specs.Prelude.{◌≡◌, ◌≤◌, true, length}
use Rattle.std.specs.List.{list_all}
use Rattle.ladder_tree.specs.declared.project.Project.{Project}
use Rattle.ladder_tree.specs.Forms.{forms_of_all}
use Rattle.ladder_tree.specs.Leaves.{all_leaves, depth_of_all}
use Rattle.ladder_tree.specs.declared.limits.TheConstants.{DEPTH, RUNGS, ELEMENTS, OPENINGS, PIN_LINES}
use Rattle.ld_line.specs.Kinds.{is_kind_built}
use Rattle.ld_line.specs.Numbers.{most_setting}
use Rattle.ld_line.specs.Range.{is_read_kind, is_read_pin}
use Rattle.ld_line.specs.Words.{is_target_built}
use Rattle.ld_line.specs.declared.pins.PinsLine.TheVariants.{Pin}

pub record IsWithin (p : Project) : Type 0 where
  pub target : is_target_built p.target ≡ true
  pub cycle : p.cycle ≤ most_setting
  pub crystal : p.crystal ≤ most_setting
  pub baud : p.baud ≤ most_setting
  pub pins : length p.pins ≤ PIN_LINES
  -- names that are names, and pins of at most 255
  pub assigned : list_all (λ l. is_read_pin (Pin l)) p.pins ≡ true
  pub rungs : length p.rungs ≤ RUNGS
  pub elements : length (all_leaves p.rungs) ≤ ELEMENTS
  pub forms : forms_of_all p.rungs ≤ OPENINGS
  pub depth : depth_of_all p.rungs ≤ DEPTH
  pub read : list_all (λ l. is_read_kind l.kind) (all_leaves p.rungs) ≡ true
  pub built : list_all (λ l. is_kind_built p.target l.kind) (all_leaves p.rungs) ≡ true
