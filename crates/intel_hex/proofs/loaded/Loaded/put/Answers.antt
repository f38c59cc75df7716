use Rattle.std.proofs.Common.{◌≡◌, length, ap, sym, ◌∙◌, arith}
use Rattle.intel_hex.proofs.AreaLemmas.{all_small}
use Rattle.intel_hex.proofs.loaded.Loaded.put.Goals as goal

pub is_given-requires-clause-within : goal.is_given-requires-clause-within
is_given-requires-clause-within c k h =
    let place = all_small c.args.target _ _ (sym c.is_outside.ensures ∙ c.if-is_outside.false) k h in
    let size : length c.as_slice.result.now ≡ 17408 = ap length c.as_slice.ensures.value ∙ c.requires in
    omega arith

pub write-requires : goal.write-requires
write-requires c k h =
    let place = all_small c.args.target _ _ (sym c.is_outside.ensures ∙ c.if-is_outside.false) k h in
    let size : length c.as_mut_slice.result.now ≡ 17408 = ap length c.as_mut_slice.ensures.value ∙ c.requires in
    omega arith
