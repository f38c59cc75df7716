use Rattle.std.proofs.Common.{rules, ◌≡◌, ◌-◌, length}
use Rattle.std.proofs.lemmas.Result.{on_ok_weaker}
use Rattle.ld_text.proofs.FormsLemmas.{appended, still_nested}
use Rattle.ld_text.proofs.forms.Forms.append.Goals as goal

pub invariant_of-self : goal.invariant_of-self
invariant_of-self c =
    let place : c.len-last.result - 1 ≡ length c.self.inside.items.items - 1 = search rules in
    still_nested c.self.inside.items.items c.args.self.now (c.len-last.result - 1) c.index_mut.result.now c.push.new.self c.self.view_is c.requires place
    c.index_mut.ensures.value c.self.invariant

pub returns : goal.returns
returns c =
    let place : c.len-last.result - 1 ≡ length c.self.inside.items.items - 1 = search rules in
    on_ok_weaker c.push.result
    (λ h. appended c.self.inside.items.items c.args.self.now (c.len-last.result - 1) c.index_mut.result.now c.args.node c.push.new.self c.self.view_is
    c.requires place c.index_mut.ensures.value h)
    c.push.ensures.ok
