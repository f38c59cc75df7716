use Rattle.std.proofs.Common.{◌≡◌, ℕ, ◌<◌, Bool, true, false, not, length, List, [], below_more, slice_index_or, arith, refl, sym, ◌∙◌}
use Rattle.std.proofs.lemmas.List.{ext_get_or}
use Rattle.std.proofs.lemmas.Option.{get_or_from_slice_get}
use Rattle.std.specs.Cmp.Lexicographic.{same_text}
use Rattle.ldmicro_top.proofs.sources.same_list.Goals as goal

told_same : (b : Bool) → false ≡ not b → true ≡ b
told_same true h = refl
told_same false h = sym h

pub loop-place-preserved : goal.loop-place-preserved
loop-place-preserved c =
    let a = c.get.result.now in
    let b = c.get-in-loop-place.result.now in
    let same : c.as_slice.result.now ≡ c.as_slice-in-loop-place.result.now = same_text _ _ (told_same _ c.if-ne.ensures) in
    below_more _ _ c.loop-place.invariant
    (get_or_from_slice_get c.args.a.now c.loop-place.place a [] c.get.ensures
    ∙ sym c.as_slice.ensures ∙ same ∙ c.as_slice-in-loop-place.ensures
    ∙ sym (get_or_from_slice_get c.args.b.now c.loop-place.place b [] c.get-in-loop-place.ensures))

-- lists of one length with the same names at each place are equal
same_lists : (a b : List (List ℕ)) → length a ≡ length b → ((k : ℕ) → k < length a → slice_index_or a k [] ≡ slice_index_or b k []) → b ≡ a
same_lists a b long same = sym (ext_get_or [] a b long same)

pub returns : goal.returns
returns c =
    let long : length c.args.a.now ≡ length c.args.b.now = omega arith in
    (λ e. same_lists c.args.a.now c.args.b.now long (λ k lt. c.loop-place.invariant k (omega arith)), λ e. refl)
