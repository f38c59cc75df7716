-- What names hold: projects, traces and code.
use Rattle.std.specs.Prelude.{◌≡◌, ℕ, List, Some, Ok}
use Rattle.ld_base.specs.Bytes.{Held}
use Rattle.chip_tables.specs.declared.target.Target.TheVariants.{Mega16}
use Rattle.intel_hex.specs.Verdict.{hex_verdict}
use Rattle.intel_hex.specs.declared.image.Image.{Image}
use Rattle.ladder_tree.specs.declared.names.Names.{Names}
use Rattle.ladder_tree.specs.declared.project.Project.{Project}
use Rattle.ladder_trace.specs.Trace.{verdict}
use Rattle.ladder_trace.specs.declared.trace.Trace.{Trace}
use Rattle.int_code.specs.declared.op.IntProgram.{IntProgram}
use Rattle.interp_code.specs.declared.program.InterpProgram.{InterpProgram}
use Rattle.ldmicro_top.specs.Code.{IsCode}
use Rattle.ldmicro_top.specs.Expected.{IsAccepted}
use Rattle.ldmicro_top.specs.Replayed.{SameNames}

-- the text of a project that keeps the rules and fits
pub record HoldsProject (held : Held) (name : List ℕ) (project : Project) : Type 0 where
  pub text : List ℕ
  pub read : held name ≡ Some text
  pub accepted : IsAccepted text project

-- a trace of the names
pub record HoldsTrace (held : Held) (name : List ℕ) (n : Names) (trace : Trace) : Type 0 where
  pub text : List ℕ
  pub read : held name ≡ Some text
  pub given : verdict n text ≡ Ok trace

-- a HEX file with this image
pub record HoldsHex (held : Held) (name : List ℕ) (image : Image) : Type 0 where
  pub text : List ℕ
  pub read : held name ≡ Some text
  pub is : hex_verdict Mega16 text ≡ Ok image

-- the text of a program with these names
pub record HoldsCode (held : Held) (name : List ℕ) (n : Names) (p : IntProgram) : Type 0 where
  pub text : List ℕ
  pub read : held name ≡ Some text
  pub said : InterpProgram
  pub code : IsCode text said
  pub names : SameNames n said.names
  pub program : said.program ≡ p
