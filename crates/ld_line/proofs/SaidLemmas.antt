-- Facts of what is said, kept along the ways in which parts are joined.
use Rattle.std.proofs.Common.{◌≡◌, Bool, true, false, if◌then◌else◌, subst}
use Rattle.ld_line.specs.Said.{IfIs, said_map, said_then, both}
use Rattle.ld_line.specs.declared.said.Said.{Said}
use Rattle.ld_line.specs.declared.said.Said.TheVariants.{Bad, Range, Is}

pub anything : {A : Type 0} (s : Said A) → IfIs s (λ x. Unit {0})
anything Bad = tt
anything Range = tt
anything (Is x) = tt

pub if_map : {A B : Type 0} (f : A → B) (Q : B → Type 0) (s : Said A) → IfIs s (λ x. Q (f x)) → IfIs (said_map f s) Q
if_map f Q Bad h = tt
if_map f Q Range h = tt
if_map f Q (Is x) h = h

pub if_then : {A B : Type 0} (f : A → Said B) (Q : B → Type 0) (s : Said A) → IfIs s (λ x. IfIs (f x) Q) → IfIs (said_then f s) Q
if_then f Q Bad h = tt
if_then f Q Range h = tt
if_then f Q (Is x) h = h

pub if_weak : {A : Type 0} (P Q : A → Type 0) (s : Said A) → ((x : A) → P x → Q x) → IfIs s P → IfIs s Q
if_weak P Q Bad weak h = tt
if_weak P Q Range weak h = tt
if_weak P Q (Is x) weak h = weak x h

pub if_both : {A B : Type 0} (P : A → Type 0) (Q : B → Type 0) (a : Said A) (b : Said B) → IfIs a P → IfIs b Q → IfIs (both a b) (λ p. P p.0 × Q p.1)
if_both P Q Bad b h g = tt
if_both P Q Range Bad h g = tt
if_both P Q Range Range h g = tt
if_both P Q Range (Is y) h g = tt
if_both P Q (Is x) Bad h g = tt
if_both P Q (Is x) Range h g = tt
if_both P Q (Is x) (Is y) h g = (h, g)

pub said_so : {A : Type 0} (P : A → Type 0) (s : Said A) (x : A) → s ≡ Is x → IfIs s P → P x
said_so P Bad x e h = absurd cc
said_so P Range x e h = absurd cc
said_so P (Is y) x e h = let same : y ≡ x = cc in subst P same h

-- two parts, each with its fact, and what is made of them
pub if_made : {A B C : Type 0} (f : A × B → C) (P : A → Type 0) (Q : B → Type 0) (R : C → Type 0) (a : Said A) (b : Said B) → IfIs a P → IfIs b Q
    → ((p : A × B) → P p.0 × Q p.1 → R (f p)) → IfIs (said_map f (both a b)) R
if_made f P Q R a b h g made = if_map f R (both a b) (if_weak (λ p. P p.0 × Q p.1) (λ p. R (f p)) (both a b) made (if_both P Q a b h g))

pub if_test : {A : Type 0} (Q : A → Type 0) (b : Bool) (s t : Said A) → IfIs s Q → IfIs t Q → IfIs (if b then s else t) Q
if_test Q true s t h g = h
if_test Q false s t h g = g
