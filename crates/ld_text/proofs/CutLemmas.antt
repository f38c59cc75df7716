-- A text that is longer than its limit is refused at one line, whatever follows the first byte past the limit.
use Rattle.std.proofs.Common.{◌≡◌, ℕ, ◌+◌, ◌-◌, ◌<◌, ◌≤◌, Bool, true, false, cond, not, ltb, eqb, ◌&&◌, ◌||◌, List, [], ◌∷◌, ◌++◌, length, take, drop, Option, Some, None, refl, sym, ap, subst, ◌∙◌, arith, length-append}
use Rattle.std.proofs.Math.Seq.{take-append-add}
use Rattle.std.proofs.lemmas.Bool.Decides.{nat_tests}
use Rattle.std.proofs.lemmas.List.{take-append-drop, length-take-le}
use Rattle.ladder_tree.specs.declared.fault.ProjectFault.{ProjectFault}
use Rattle.ladder_tree.specs.declared.fault.ProjectFault.TheVariants.{NotProject, BadLine, LineTooLong, TooDeep, TooMany, UnknownChip, NumberRange, NotBuilt}
use Rattle.texts.specs.declared.limits.TheConstants.{LINE_BYTES, FILE_BYTES}
use Rattle.ld_line.specs.Tokens.{tokens}
use Rattle.ld_line.specs.declared.said.Said.{Said}
use Rattle.ld_text.specs.declared.heard.LineForm.{LineForm}
use Rattle.ld_text.specs.Lines.{Line, open_line, ended_lines, behind_feeds, lines_of, size_of}
use Rattle.ld_text.specs.Place.{Place, start, said_in, behind}
use Rattle.ld_text.specs.Faults.{line_of, fault_of, fault_at, first_fault, or_else, is_first, is_bad, is_out_of_range, counting, begins_unbuilt, names_unbuilt, is_chipless, is_too_deep, is_one_too_many}
use Rattle.ld_text.specs.Text.{IsRefusedAlike, text_fault, early_fault, early_length, judged}
use Rattle.ld_text.specs.Reading.{Standing, first, Taken, Goes, Stops, taken, taken_as, Mind, Reads, Refuses, line_done, fed, fed_byte, fresh, Verdict, Accepts, Rejects, at_end, finished, next}
use Rattle.ld_text.proofs.FedLemmas.{fed_refused, fed_append}
use Rattle.ld_text.proofs.TakenLemmas.{goes, passes}
use Rattle.ld_text.proofs.RunLemmas.{FedTo}
use Rattle.ld_text.proofs.VerdictLemmas.{IsVerdict, verdict, IsEarly, early, early_stays, early_is_final, fed_whole}

-- the faults of a line are told with its number

abbrev IsAt : ℕ → Option ProjectFault → Type 0
IsAt n None = Unit {0}
IsAt n (Some f) = line_of f ≡ n

rows_at : (n : ℕ) (a b c d e f g h : Bool)
    → IsAt n (cond a (Some (LineTooLong n)) (cond b (Some (NotProject n))
    (cond c (Some (NotBuilt n)) (cond d (Some (BadLine n)) (cond e (Some (UnknownChip n))
    (cond f (Some (NumberRange n)) (cond g (Some (TooDeep n)) (cond h (Some (TooMany n)) None))))))))
rows_at n true b c d e f g h = refl
rows_at n false true c d e f g h = refl
rows_at n false false true d e f g h = refl
rows_at n false false false true e f g h = refl
rows_at n false false false false true f g h = refl
rows_at n false false false false false true g h = refl
rows_at n false false false false false false true h = refl
rows_at n false false false false false false false true = refl
rows_at n false false false false false false false false = tt

fault_of-at : (p : Place) (n : ℕ) (bytes : List ℕ) (size : ℕ) (said : Said LineForm) → IsAt n (fault_of p n bytes size said)
fault_of-at p n bytes size said =
    rows_at n (ltb LINE_BYTES (length bytes)) (is_first p.site && is_bad said)
    (not (is_first p.site) && (begins_unbuilt (counting p.site p.target) (tokens bytes) || names_unbuilt said)) (is_bad said)
    (is_chipless p.target said) (is_out_of_range said) (is_too_deep p said)
    (is_one_too_many p said || ltb FILE_BYTES (p.bytes + size))

-- a line past the limit stops a reader

abbrev StopsAt : ℕ → Taken → Type 0
StopsAt n (Goes s) = ⊥
StopsAt n (Stops f) = line_of f ≡ n

no_room : (p : Place) (n : ℕ) (bytes : List ℕ) (size : ℕ) (said : Said LineForm) → FILE_BYTES < p.bytes + size → fault_of p n bytes size said ≡ None → ⊥
no_room p n bytes size said over h =
    by (is_one_too_many p said) (ltb FILE_BYTES (p.bytes + size)) (passes p n bytes size said h).few (above FILE_BYTES (p.bytes + size) over)
  where
    above : (n k : ℕ) → n < k → ltb n k ≡ true
    above n k h = grind (arith, nat_tests)

    by : (a b : Bool) → (a || b) ≡ false → b ≡ true → ⊥
    by true b h g = absurd cc
    by false b h g = absurd cc

taken_past : (n : ℕ) (bytes : List ℕ) (size : ℕ) (s : Standing) → FILE_BYTES < s.place.bytes + size → StopsAt n (taken n bytes size s)
taken_past n bytes size s over = by (fault_of s.place n bytes size (said_in s.place.site n bytes)) refl
  where
    by : (o : Option ProjectFault) → fault_of s.place n bytes size (said_in s.place.site n bytes) ≡ o
        → StopsAt n (taken_as o (said_in s.place.site n bytes) n size s)
    by (Some f) e = subst (IsAt n) e (fault_of-at s.place n bytes size (said_in s.place.site n bytes))
    by None e = absurd (no_room s.place n bytes size (said_in s.place.site n bytes) over e)

abbrev RejectsAt : ℕ → Verdict → Type 0
RejectsAt n (Accepts p) = ⊥
RejectsAt n (Rejects f) = line_of f ≡ n

ended_past : (n number : ℕ) (o : Taken) → StopsAt n o → RejectsAt n (at_end number o)
ended_past n number (Goes s) h = absurd h
ended_past n number (Stops f) h = h

stays_refused : (n : ℕ) (f : ProjectFault) (more : List ℕ) → line_of f ≡ n → RejectsAt n (finished (fed (Refuses f) more))
stays_refused n f more h = subst (λ m. RejectsAt n (finished m)) (sym (fed_refused f more)) h

done_past : (n : ℕ) (o : Taken) (more : List ℕ) → StopsAt n o → RejectsAt n (finished (fed (line_done n o) more))
done_past n (Goes s) more h = absurd h
done_past n (Stops f) more h = stays_refused n f more h

-- in a line past the limit a reader refuses the text at the line, whatever follows
past : (more : List ℕ) (n : ℕ) (l : List ℕ) (s : Standing) → 0 < length l → FILE_BYTES < s.place.bytes + length l
    → RejectsAt n (finished (fed (Reads n l s) more))
past [] n [] s some over = absurd (omega arith)
past [] n (b ∷ bs) s some over = ended_past n (next n) (taken n (b ∷ bs) (length (b ∷ bs)) s) (taken_past n (b ∷ bs) (length (b ∷ bs)) s over)
past (x ∷ more) n l s some over =
    by (eqb x 10) (ltb (length l) LINE_BYTES) (past more n (l ++ x ∷ []) s (omega (arith, length-append l (x ∷ []))) (omega (arith, length-append l (x ∷ []))))
  where
    by : (b c : Bool) → RejectsAt n (finished (fed (Reads n (l ++ x ∷ []) s) more))
        → RejectsAt n (finished (fed (cond b (line_done n (taken n l (length l + 1) s)) (cond c (Reads n (l ++ x ∷ []) s) (Refuses (LineTooLong n)))) more))
    by true c rec = done_past n (taken n l (length l + 1) s) more (taken_past n l (length l + 1) s (omega (arith, over)))
    by false true rec = rec
    by false false rec = stays_refused n (LineTooLong n) more refl

-- a reader has counted the bytes

abbrev HasCounted : ℕ → Mind → Type 0
HasCounted n (Reads k l s) = s.place.bytes + length l ≡ n
HasCounted n (Refuses f) = Unit {0}

counted_byte : (n : ℕ) (m : Mind) (b : ℕ) → HasCounted n m → HasCounted (n + 1) (fed_byte m b)
counted_byte n (Refuses f) b h = tt
counted_byte n (Reads k l s) b h = by (eqb b 10) (ltb (length l) LINE_BYTES)
  where
    done : (o : Taken) → taken k l (length l + 1) s ≡ o → HasCounted (n + 1) (line_done k o)
    done (Stops f) e = tt
    done (Goes t) e =
        let bytes : t.place.bytes ≡ s.place.bytes + (length l + 1) = ap (λ x. x.place.bytes) (goes k l (length l + 1) s t e).is in omega (arith, bytes, h)

    by : (x y : Bool) → HasCounted (n + 1) (cond x (line_done k (taken k l (length l + 1) s)) (cond y (Reads k (l ++ b ∷ []) s) (Refuses (LineTooLong k))))
    by true y = done (taken k l (length l + 1) s) refl
    by false true = omega (arith, length-append l (b ∷ []), h)
    by false false = tt

counted : (bs : List ℕ) (n : ℕ) (m : Mind) → HasCounted n m → HasCounted (n + length bs) (fed m bs)
counted [] n m h = let same : n ≡ n + 0 = omega arith in subst (λ k. HasCounted k m) same h
counted (b ∷ bs) n m h =
    let same : n + 1 + length bs ≡ n + length (b ∷ bs) = omega arith in
    subst (λ k. HasCounted k (fed m (b ∷ bs))) same (counted bs (n + 1) (fed_byte m b) (counted_byte n m b h))

-- the line of a fault that comes early is one of the lines

abbrev IsUpTo : ℕ → Option ProjectFault → Type 0
IsUpTo n None = Unit {0}
IsUpTo n (Some f) = line_of f ≤ n

first_up_to : (ls : List Line) (p : Place) (n : ℕ) → IsUpTo (n + length ls) (first_fault p (n + 1) ls)
first_up_to [] p n = tt
first_up_to (l ∷ ls) p n =
    by (fault_at p (n + 1) l) (fault_of-at p (n + 1) l.bytes (size_of l) (said_in p.site (n + 1) l.bytes)) (first_fault (behind p (n + 1) l) (n + 1 + 1) ls)
    (first_up_to ls (behind p (n + 1) l) (n + 1))
  where
    more : (o : Option ProjectFault) → IsUpTo (n + 1 + length ls) o → IsUpTo (n + length (l ∷ ls)) o
    more None h = tt
    more (Some f) h = omega arith

    by : (o : Option ProjectFault) → IsAt (n + 1) o → (later : Option ProjectFault) → IsUpTo (n + 1 + length ls) later
        → IsUpTo (n + length (l ∷ ls)) (or_else o later)
    by (Some f) h later r = omega (arith, h)
    by None h later r = more later r

one_open : (bs : List ℕ) → 0 < length bs → length (open_line bs) ≡ 1
one_open [] h = absurd (omega arith)
one_open (b ∷ bs) h = refl

lines_open : (text : List ℕ) → 0 < length (behind_feeds text) → length (lines_of text) ≡ length (ended_lines text) + 1
lines_open text h = omega (arith, length-append (ended_lines text) (open_line (behind_feeds text)), one_open (behind_feeds text) h)

early_up_to : (text : List ℕ) (f : ProjectFault) → early_fault text ≡ Some f → line_of f ≤ length (lines_of text)
early_up_to text f h = by (first_fault start 1 (ended_lines text)) (first_up_to (ended_lines text) start 0) h
  where
    long : (b : Bool) → ltb LINE_BYTES (length (behind_feeds text)) ≡ b → cond b (Some (LineTooLong (length (ended_lines text) + 1))) None ≡ Some f
        → line_of f ≤ length (lines_of text)
    long false e g = absurd cc
    long true e g =
        let same : LineTooLong (length (ended_lines text) + 1) ≡ f = cc in
        let line : length (ended_lines text) + 1 ≡ line_of f = ap line_of same in
        omega (arith, line, lines_open text (some (length (behind_feeds text)) e))
      where
        some : (k : ℕ) → ltb LINE_BYTES k ≡ true → 0 < k
        some k h = grind (arith, nat_tests)

    by : (o : Option ProjectFault) → IsUpTo (0 + length (ended_lines text)) o
        → or_else o (early_length (length (ended_lines text) + 1) (behind_feeds text)) ≡ Some f → line_of f ≤ length (lines_of text)
    by None u g = long (ltb LINE_BYTES (length (behind_feeds text))) refl g
    by (Some e) u g =
        let same : e ≡ f = cc in let line = ap line_of same in omega (arith, u, line, length-append (ended_lines text) (open_line (behind_feeds text)))

-- what is read of a text

pub record RejectedAt (text : List ℕ) (n : ℕ) : Type 0 where
  pub fault : ProjectFault
  pub refused : text_fault text ≡ Some fault
  pub line : line_of fault ≡ n

rejected : (text : List ℕ) (n : ℕ) (v : Verdict) → RejectsAt n v → IsVerdict text v → RejectedAt text n
rejected text n (Accepts p) h k = absurd h
rejected text n (Rejects f) h k = record { fault = f; refused = k; line = h }

take_past : (n : ℕ) (xs ys : List ℕ) → length xs ≤ n → take n (xs ++ ys) ≡ xs ++ take (n - length xs) ys
take_past n xs ys h = let k : length xs + (n - length xs) ≡ n = omega (arith, h) in ap (λ j. take j (xs ++ ys)) (sym k) ∙ take-append-add xs ys (n - length xs)

-- what is refused early is the fault of what is read of the text, whatever follows
pub early_stays_judged : (text more : List ℕ) (f : ProjectFault) → length text ≤ FILE_BYTES + 1 → early_fault text ≡ Some f
    → text_fault (judged (text ++ more)) ≡ Some f
early_stays_judged text more f h e = ap text_fault (take_past (FILE_BYTES + 1) text more h) ∙ early_stays text (take (FILE_BYTES + 1 - length text) more) f e

alike : (front more : List ℕ) → FILE_BYTES < length front → judged (front ++ more) ≡ front → IsRefusedAlike (front ++ more)
alike front more over cut = by (fed fresh front) refl (fed_whole front) (early front) (counted front 0 fresh refl)
  where
    by : (m : Mind) → fed fresh front ≡ m → FedTo 1 front first m → IsEarly front m → HasCounted (0 + length front) m → IsRefusedAlike (front ++ more)
    by (Refuses f) e far soon count = record {
      whole = f;
      part = f;
      refused = early_stays front more f soon;
      cut = ap text_fault cut ∙ early_is_final front f soon;
      line = refl;
      within = subst (λ t. line_of f ≤ length (lines_of t)) (sym cut) (early_up_to front f soon);
      earlier = λ h. refl;
    }
    by (Reads n l s) e far soon count =
        let bytes : FILE_BYTES < s.place.bytes + length l = omega (arith, over, count) in
        let some : 0 < length l = omega (arith, bytes, far.within) in
        let a =
        rejected (front ++ more) n (finished (fed (Reads n l s) more)) (past more n l s some bytes)
        (subst (λ m. IsVerdict (front ++ more) (finished m)) (fed_append fresh front more ∙ ap (λ m. fed m more) e) (verdict (front ++ more))) in
        let b = rejected front n (finished (Reads n l s)) (past [] n l s some bytes) (subst (λ m. IsVerdict front (finished m)) e (verdict front)) in
        let last : length (lines_of (judged (front ++ more))) ≡ n =
        ap (λ t. length (lines_of t)) cut ∙ lines_open front (subst (λ x. 0 < length x) (sym far.rest) some) ∙ omega (arith, far.number) in
        record {
          whole = a.fault;
          part = b.fault;
          refused = a.refused;
          cut = ap text_fault cut ∙ b.refused;
          line = b.line ∙ sym a.line;
          within = omega (arith, a.line, last);
          earlier = λ h. absurd (omega (arith, h, a.line, last));
        }

pub refused_alike : (text : List ℕ) → FILE_BYTES < length text → IsRefusedAlike text
refused_alike text over =
    let parts = take-append-drop (FILE_BYTES + 1) text in
    let size : length (judged text) ≡ FILE_BYTES + 1 = length-take-le (FILE_BYTES + 1) text (omega (arith, over)) in
    subst IsRefusedAlike parts (alike (judged text) (drop (FILE_BYTES + 1) text) (omega (arith, size)) (ap judged parts))
