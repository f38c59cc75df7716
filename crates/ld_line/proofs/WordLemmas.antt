-- Each word is read where it is spelled, and nothing else is.
use Rattle.std.proofs.Common.{◌≡◌, cond, ℕ, Bool, true, false, ◌&&◌, List, [], ◌∷◌, Some, refl, sym, subst}
use Rattle.std.specs.List.{find, list_all}
use Rattle.std.specs.Str.{bytes_eq}
use Rattle.std.proofs.lemmas.Slice.Eq.{bytes_eq-Decides}
use Rattle.ld_line.specs.Words.{spelling, word_of}
use Rattle.ld_line.specs.declared.word.Word.{Word}
use Rattle.ld_line.specs.declared.word.Word.TheVariants.{Contacts, Coil, Osr, Osf, Short, Open, Comment, MasterRelay, Placeholder, Ton, Tof, Rto, Ctu, Ctd, Ctc, Res, Move, Add, Sub, Mul, Div, Equ, Neq, Grt, Geq, Les, Leq, ShiftRegister, LookUpTable, ReadAdc, SetPwm, UartRecv, UartSend, Persist, FormattedString, PiecewiseLinear}
use Rattle.ld_line.specs.declared.word.TheConstants.{WORDS}

-- What is found passes the test, and each test that all elements pass.
found : {X : Type 0} (p q : X → Bool) (xs : List X) (x : X) → list_all q xs ≡ true → find p xs ≡ Some x → (p x ≡ true) × (q x ≡ true)
found p q [] x h e = absurd cc
found p q (y ∷ ys) x h e = by (p y) (q y) refl refl h e (λ g f. found p q ys x g f)
  where
    by : (a b : Bool) → p y ≡ a → q y ≡ b → (b && list_all q ys) ≡ true → cond a (Some y) (find p ys) ≡ Some x
        → (list_all q ys ≡ true → find p ys ≡ Some x → (p x ≡ true) × (q x ≡ true)) → (p x ≡ true) × (q x ≡ true)
    by true true f g h e rest = let same : y ≡ x = cc in subst (λ z. (p z ≡ true) × (q z ≡ true)) same (f, g)
    by false true f g h e rest = rest h e
    by a false f g h e rest = absurd cc

pub word_spelled : (word : Word) → word_of (spelling word) ≡ Some word
word_spelled Contacts = refl
word_spelled Coil = refl
word_spelled Osr = refl
word_spelled Osf = refl
word_spelled Short = refl
word_spelled Open = refl
word_spelled Comment = refl
word_spelled MasterRelay = refl
word_spelled Placeholder = refl
word_spelled Ton = refl
word_spelled Tof = refl
word_spelled Rto = refl
word_spelled Ctu = refl
word_spelled Ctd = refl
word_spelled Ctc = refl
word_spelled Res = refl
word_spelled Move = refl
word_spelled Add = refl
word_spelled Sub = refl
word_spelled Mul = refl
word_spelled Div = refl
word_spelled Equ = refl
word_spelled Neq = refl
word_spelled Grt = refl
word_spelled Geq = refl
word_spelled Les = refl
word_spelled Leq = refl
word_spelled ShiftRegister = refl
word_spelled LookUpTable = refl
word_spelled ReadAdc = refl
word_spelled SetPwm = refl
word_spelled UartRecv = refl
word_spelled UartSend = refl
word_spelled Persist = refl
word_spelled FormattedString = refl
word_spelled PiecewiseLinear = refl

all_pass : {X : Type 0} (xs : List X) → list_all (λ x. true) xs ≡ true
all_pass [] = refl
all_pass (x ∷ xs) = all_pass xs

pub spelled_word : (token : List ℕ) (word : Word) → word_of token ≡ Some word → token ≡ spelling word
spelled_word token word e =
    sym ((bytes_eq-Decides (spelling word) token).0 (found (λ w. bytes_eq (spelling w) token) (λ w. true) WORDS word (all_pass WORDS) e).0)

-- what holds of all words, as is seen word by word
pub of_each_word : (test : Word → Bool) (word : Word) → list_all test WORDS ≡ true → test word ≡ true
of_each_word test word h = (found (λ w. bytes_eq (spelling w) (spelling word)) test WORDS word h (word_spelled word)).1
