use Rattle.std.proofs.Common.{rules, ap, sym, ◌∙◌, pos, subst}
use Rattle.std.specs.Int.{int_wrap, w64, int_rem_euclid}
use Rattle.std.proofs.lemmas.Int.{ints, to_z-of_z}
use Rattle.ld_base.proofs.WrapLemmas.{wraps}
use Rattle.ld_base.specs.Wrap.{IsWrapped}
use Rattle.ld_base.proofs.wrap.wrap16.Goals as goal

pub returns-clause-value : goal.returns-clause-value
unfolding int_wrap
returns-clause-value c =
    let back = to_z-of_z w64 c.args.n c.ranges.n in
    let low = c.rem_euclid.ensures.value ∙ ap (λ z. int_rem_euclid z (pos 65536)) back in
    search (rules, ints, to_z-of_z, low, c.cast_signed.ensures)

pub returns-clause-wrapped : goal.returns-clause-wrapped
returns-clause-wrapped c = subst (IsWrapped c.args.n) (sym (returns-clause-value c)) (wraps c.args.n)
