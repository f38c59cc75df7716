-- Targets in words.
use Rattle.std.proofs.Common.{◌≡◌, ℕ, List, [], ◌∷◌, Option, Some, None, refl, sym, ap, ◌∙◌}
use Rattle.std.specs.Option.{option_or}
use Rattle.ld_line.specs.Targets.{target_of, first_target}
use Rattle.chip_tables.specs.declared.target.Target.{Target}

pub target_later : (ws : List (List ℕ)) (w : List ℕ) (others : List (List ℕ)) → ws ≡ w ∷ others → None ≡ target_of w → first_target others ≡ first_target ws
target_later ws w others is h = ap (λ t. option_or t (first_target others)) h ∙ ap first_target (sym is)

or_none : (t : Option Target) → t ≡ option_or t None
or_none None = refl
or_none (Some t) = refl

pub target_last : (ws : List (List ℕ)) (w : List ℕ) → ws ≡ w ∷ [] → target_of w ≡ first_target ws
target_last ws w is = or_none (target_of w) ∙ ap first_target (sym is)

pub target_found : (ws : List (List ℕ)) (w : List ℕ) (others : List (List ℕ)) (t : Target) → ws ≡ w ∷ others → Some t ≡ target_of w → Some t ≡ first_target ws
target_found ws w others t is h = ap (λ o. option_or o (first_target others)) h ∙ ap first_target (sym is)
