-- What was fed of a file answers for the whole file.
use Rattle.std.proofs.Common.{◌≡◌, ℕ, ◌≤◌, Bool, true, List, [], ◌+◌, ◌++◌, length, Some, Err, sym, subst, append-nil}
use Rattle.std.proofs.lemmas.List.{take_all, take_at}
use Rattle.texts.specs.Limits.{judged as judged_to}
use Rattle.texts.specs.declared.limits.TheConstants.{FILE_BYTES}
use Rattle.ld_text.specs.Text.{IsCause, text_fault, early_fault, judged}
use Rattle.ld_text.specs.declared.fault.TextError.{TextError}
use Rattle.ld_text.specs.declared.fault.TextError.TheVariants.{Refused, Memory}
use Rattle.ld_text.proofs.CutLemmas.{early_stays_judged}
use Rattle.project_file.specs.Source.{IfRefused, judged_so}

-- a file that was fed to its end
pub fed_whole : (most : ℕ) (text left all : List ℕ) → all ≡ text ++ left → left ≡ [] → length text ≤ most + 1 → text ≡ judged_to most all
fed_whole most text left all h e short = rw (h, e, append-nil text) (sym (take_all (most + 1) text short))

-- a file that was fed to the first byte past the limit
pub fed_over : (most : ℕ) (text left all : List ℕ) → all ≡ text ++ left → length text ≡ most + 1 → text ≡ judged_to most all
fed_over most text left all h long = rw h (sym (take_at text left (most + 1) long))

-- a text that is refused early is refused whatever follows
pub fed_refused : (T : Type 0) (told : Bool) (all text piece : List ℕ) (e : TextError) → (told ≡ true → (more : List ℕ) × (all ≡ (text ++ piece) ++ more)) →
    length (text ++ piece) ≤ FILE_BYTES + 1
    → IsCause (early_fault (text ++ piece)) e → IfRefused {T = T} (Err (judged_so e)) (λ fault. told ≡ true → text_fault (judged all) ≡ Some fault)
fed_refused T told all text piece (Refused f) whole short cause =
    λ y. let w = whole y in subst (λ (x : List ℕ). text_fault (judged x) ≡ Some f) (sym w.1) (early_stays_judged (text ++ piece) w.0 f short cause)
fed_refused T told all text piece (Memory e) whole short cause = tt
