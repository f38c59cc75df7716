-- A program sets the duty just where a ladder has a SET_PWM, with its hertz, and uses the serial line where it has an element of it.
use Rattle.std.proofs.Common.{◌≡◌, ℕ, false, List, [], ◌∷◌, ◌++◌, refl, sym, ◌∙◌, arith, append-nil}
use Rattle.std.specs.Option.{option_to_list}
use Rattle.std.proofs.Math.Bool.{or-false}
use Rattle.std.proofs.lemmas.List.Concat.{flat_map-cons, flat_map-append}
use Rattle.std.proofs.lemmas.List.Folds.{list_any-append}
use Rattle.ladder_tree.specs.Leaves.{all_leaves}
use Rattle.ladder_tree.specs.declared.element.Leaf as leaf
use Rattle.ladder_tree.specs.declared.element.LeafKind.TheVariants.{Table, SetPwm, Recv, Send, Persist}
use Rattle.ladder_tree.specs.declared.element.LeafKind.{LeafKind}
use Rattle.ladder_tree.specs.declared.project.Rung.{Rung}
use Rattle.int_code.specs.Uses.{is_pwm, has_pwm}
use Rattle.int_code.specs.declared.op.IntOp.TheVariants.{Pwm, Rx, Tx, Eewr, Tab}
use Rattle.int_code.specs.declared.op.IntOp.{IntOp}
use Rattle.ladder_lower.specs.Devices.{is_serial, has_serial, hertz_of, hertz_in, hertz_wanted}
use Rattle.ladder_lower.specs.ElementCode.{element_code}
use Rattle.ladder_lower.specs.Nesting.{nesting_of_all}
use Rattle.ladder_lower.specs.NodeCode.{program_code}
use Rattle.ladder_tree.specs.Peripherals.{rate_of, uses_pwm, any_pwm, uses_uart, any_uart}
use Rattle.ladder_lower.specs.declared.layout.Layout.{Layout}
use Rattle.ladder_lower.proofs.OrdinaryLemmas.{any_special, element_plain}
use Rattle.ladder_lower.proofs.PartLemmas.{IsShared, Ready, program_holds}

pub record Agrees (ls : List leaf.Leaf) (ops : List IntOp) : Type 0 where
  pub duty : has_pwm ops ≡ any_pwm ls
  pub hertz : hertz_in ops ≡ hertz_wanted ls
  pub serial : has_serial ops ≡ any_uart ls

both_agree : (ls ms : List leaf.Leaf) (a b : List IntOp) → Agrees ls a → Agrees ms b → Agrees (ls ++ ms) (a ++ b)
both_agree ls ms a b f g = record {
  duty = rw (list_any-append is_pwm a b, list_any-append (λ (l : leaf.Leaf). uses_pwm l.kind) ls ms, f.duty, g.duty) refl;
  hertz = rw (flat_map-append hertz_of a b, flat_map-append (λ (l : leaf.Leaf). option_to_list (rate_of l.kind)) ls ms, f.hertz, g.hertz) refl;
  serial = rw (list_any-append is_serial a b, list_any-append (λ (l : leaf.Leaf). uses_uart l.kind) ls ms, f.serial, g.serial) refl;
}

neither : Agrees [] []
neither = record { duty = refl; hertz = refl; serial = refl }

agrees_shared : (p : Layout) (deep : ℕ) → IsShared p deep Agrees
agrees_shared p deep = record {
  none = neither;
  both = both_agree;
  set = λ i lt. record { duty = refl; hertz = refl; serial = refl };
  clear = λ i lt. record { duty = refl; hertz = refl; serial = refl };
  copy = λ i j lt le. record { duty = refl; hertz = refl; serial = refl };
  set_where = λ i j lt le. record { duty = refl; hertz = refl; serial = refl };
}

-- operations that are like no element of theirs
record UsesNone (ops : List IntOp) : Type 0 where
  duty : has_pwm ops ≡ false
  hertz : hertz_in ops ≡ []
  serial : has_serial ops ≡ false

one_more : (op : IntOp) (ops : List IntOp) → is_pwm op ≡ false → hertz_of op ≡ [] → is_serial op ≡ false → UsesNone ops → UsesNone (op ∷ ops)
one_more op ops d h s f = record { duty = rw (d, f.duty) refl; hertz = rw (flat_map-cons hertz_of op ops, h, f.hertz) refl; serial = rw (s, f.serial) refl }

uses_none : (ops : List IntOp) → any_special ops ≡ false → UsesNone ops
uses_none [] e = record { duty = refl; hertz = refl; serial = refl }
uses_none (Pwm w hz ∷ ops) e = absurd (cc)
uses_none (Rx v b ∷ ops) e = absurd (cc)
uses_none (Tx w s b ∷ ops) e = absurd (cc)
uses_none (Eewr w a ∷ ops) e = absurd (cc)
uses_none (Tab v w values ∷ ops) e = absurd (cc)
uses_none (op ∷ ops) e = one_more op ops refl refl refl (uses_none ops e)

-- what an element uses
record Uses (kind : LeafKind) (ops : List IntOp) : Type 0 where
  duty : has_pwm ops ≡ uses_pwm kind
  hertz : hertz_in ops ≡ option_to_list (rate_of kind)
  serial : has_serial ops ≡ uses_uart kind

none_used : (kind : LeafKind) (ops : List IntOp) → uses_pwm kind ≡ false → option_to_list (rate_of kind) ≡ [] → uses_uart kind ≡ false →
    any_special ops ≡ false → Uses kind ops
none_used kind ops d h s e = let f = uses_none ops e in record { duty = rw (f.duty, d) refl; hertz = rw (f.hertz, h) refl; serial = rw (f.serial, s) refl }

element_uses : (p : Layout) (kind : LeafKind) (k : ℕ) → Uses kind (element_code p kind k)
element_uses p (SetPwm name hz) k = record { duty = refl; hertz = refl; serial = refl }
element_uses p (Recv name) k = record { duty = refl; hertz = refl; serial = refl }
element_uses p (Send name) k = record { duty = refl; hertz = refl; serial = refl }
element_uses p (Persist name) k = record { duty = refl; hertz = refl; serial = refl }
element_uses p (Table dest index as_text values) k = record { duty = refl; hertz = refl; serial = refl }
element_uses p kind k = none_used kind (element_code p kind k) refl refl refl (element_plain p kind k)

leaf_agrees : (l : leaf.Leaf) (ops : List IntOp) → Uses l.kind ops → Agrees (l ∷ []) ops
leaf_agrees l ops f = record {
  duty = rw (f.duty, or-false) refl;
  hertz = f.hertz ∙ sym (append-nil (option_to_list (rate_of l.kind)));
  serial = rw (f.serial, or-false) refl;
}

pub program_agrees : (p : Layout) (gs : List Rung) → Ready p gs → Agrees (all_leaves gs) (program_code p gs)
program_agrees p gs ready =
    program_holds p (nesting_of_all gs) Agrees (agrees_shared p (nesting_of_all gs))
    (λ l k apt lt. leaf_agrees l (element_code p l.kind k) (element_uses p l.kind k)) gs (omega arith) ready
