-- What is known of a project that can be compiled, and why one cannot.
use Rattle.std.specs.Prelude.{◌≡◌, ⊤, None, Some}
use Rattle.ladder_tree.specs.declared.names.Names.{Names}
use Rattle.ladder_tree.specs.declared.project.Project.{Project}
use Rattle.ladder_lower.specs.Outcome.{CanLower, IsSmall}
use Rattle.ld_text.specs.Within.{IsWithin}
use Rattle.ld_text.specs.declared.fault.TextError.{TextError}
use Rattle.ld_text.specs.declared.fault.TextError.TheVariants as error
use Rattle.ldmicro_top.specs.Verdict.{misfit, verdict}

-- a project that was read, keeps the rules and fits, and its names
pub record IsJudged (n : Names) (p : Project) : Type 0 where
  pub can : CanLower n p
  pub within : IsWithin p
  pub small : IsSmall n
  pub fits : misfit p.target n ≡ None

-- memory was wanting, or the project breaks a rule or does not fit
abbrev pub IsTurnedDown : Project → TextError → Type 0
IsTurnedDown p (error.Memory e) = ⊤
IsTurnedDown p (error.Refused f) = verdict p ≡ Some f
