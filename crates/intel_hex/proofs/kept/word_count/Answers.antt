use Rattle.std.proofs.Common.{arith, sym, ◌∙◌}
use Rattle.intel_hex.specs.Loaded.{held}
use Rattle.intel_hex.proofs.KeptLemmas.{count_none, count_more, count_same}
use Rattle.intel_hex.proofs.kept.word_count.Goals as goal
use Rattle.intel_hex.proofs.kept.word_count.Goals.{then-is_some, else-is_some}

pub loop-address-init : goal.loop-address-init
loop-address-init c = (sym (count_none (held c.args.bytes.now)), omega arith)

pub loop-address-preserved : goal.loop-address-preserved
loop-address-preserved c =
    let v = c.loop-address.invariant in
    elim c.if-is_some.branch [
      | then-is_some w ↦ (count_more (held c.args.bytes.now) c.loop-address.address _ (sym c.is_some.ensures ∙ w.if-is_some.true) w.count-is, omega arith)
      | else-is_some w ↦ (
        count_same (held c.args.bytes.now) c.loop-address.address _ (sym c.is_some.ensures ∙ w.if-is_some.false) (w.count-is ∙ v.0),
        omega
            arith,
      )
    ]
