-- Bytes take a reader where the lines of the text take it.
use Rattle.std.proofs.Common.{◌≡◌, ◌≢◌, ℕ, ◌+◌, ◌<◌, ◌≤◌, Bool, true, false, cond, ltb, eqb, List, [], ◌∷◌, ◌++◌, length, Option, Some, None, refl, sym, ap, subst, ◌∙◌, arith, append_assoc, append-nil, length-append, lit≤}
use Rattle.std.proofs.lemmas.Bool.Decides.{nat_tests}
use Rattle.std.proofs.lemmas.List.Elements.{All-head, All-tail, All-append, All-nil, All-cons}
use Rattle.ladder_tree.specs.declared.fault.ProjectFault.{ProjectFault}
use Rattle.ladder_tree.specs.declared.fault.ProjectFault.TheVariants.{LineTooLong}
use Rattle.texts.specs.Lines.{IsLine, pieces, onto}
use Rattle.texts.proofs.LineLemmas.{pieces-piece, pieces-last}
use Rattle.texts.specs.declared.limits.TheConstants.{LINE_BYTES, FILE_BYTES}
use Rattle.ld_text.specs.Lines.{Line, size_of, ended, last_of, ended_lines, behind_feeds}
use Rattle.ld_text.specs.Place.{behind_said, behind, behind_all}
use Rattle.ld_text.specs.Faults.{fault_of, first_fault, or_else}
use Rattle.ld_text.specs.Text.{early_length}
use Rattle.ld_text.specs.Reading.{Standing, Taken, Goes, Stops, Mind, Reads, Refuses, taken, line_done, pushed, next, fed}
use Rattle.ld_text.proofs.TakenLemmas.{Went, goes, stops, room}
use Rattle.ld_text.proofs.FedLemmas.{fed_refused}

abbrev pub then : (Standing → Taken) → Taken → Taken
then k (Goes t) = k t
then k (Stops f) = Stops f

-- behind lines, of which the first has the number
abbrev pub run : ℕ → List Line → Standing → Taken
run n [] s = Goes s
run n (l ∷ ls) s = then (run (n + 1) ls) (taken n l.bytes (size_of l) s)

-- texts in pieces

pub record Pieces (ps : List (List ℕ)) : Type 0 where
  pub head : List ℕ
  pub rest : List (List ℕ)
  pub is : ps ≡ head ∷ rest

onto_some : (x : ℕ) (ps : List (List ℕ)) → Pieces (onto x ps)
onto_some x [] = record { head = x ∷ []; rest = []; is = refl }
onto_some x (p ∷ ps) = record { head = x ∷ p; rest = ps; is = refl }

pub pieces_some : (text : List ℕ) → Pieces (pieces 10 text)
pieces_some [] = record { head = []; rest = []; is = refl }
pieces_some (x ∷ xs) = by (eqb x 10)
  where
    by : (b : Bool) → Pieces (cond b ([] ∷ pieces 10 xs) (onto x (pieces 10 xs)))
    by true = record { head = []; rest = pieces 10 xs; is = refl }
    by false = onto_some x (pieces 10 xs)

ended-cons : (p : List ℕ) (text : List ℕ) → ended (p ∷ pieces 10 text) ≡ record { bytes = p; is_ended = true } ∷ ended (pieces 10 text)
ended-cons p text = let q = pieces_some text in ap (λ ps. ended (p ∷ ps)) q.is ∙ sym (ap (λ ps. record { bytes = p; is_ended = true } ∷ ended ps) q.is)

last_of-cons : (p : List ℕ) (text : List ℕ) → last_of (p ∷ pieces 10 text) ≡ last_of (pieces 10 text)
last_of-cons p text = let q = pieces_some text in ap (λ ps. last_of (p ∷ ps)) q.is ∙ sym (ap last_of q.is)

-- the first piece of a text that begins with bytes of a line
pub record Front (x : List ℕ) (ps : List (List ℕ)) : Type 0 where
  pub more : List ℕ
  pub rest : List (List ℕ)
  pub is : ps ≡ (x ++ more) ∷ rest

front : (x bs : List ℕ) → IsLine x → Front x (pieces 10 (x ++ bs))
front [] bs h = let q = pieces_some bs in record { more = q.head; rest = q.rest; is = q.is }
front (x ∷ xs) bs h =
    let q = front xs bs (All-tail (λ y. y ≢ 10) x xs h) in
    record { more = q.more; rest = q.rest; is = by (eqb x 10) (no x (All-head (λ y. y ≢ 10) x xs h)) ∙ ap (onto x) q.is }
  where
    no : (x : ℕ) → x ≢ 10 → eqb x 10 ≡ false
    no x h = grind (arith, nat_tests)

    by : (b : Bool) → b ≡ false → cond b ([] ∷ pieces 10 (xs ++ bs)) (onto x (pieces 10 (xs ++ bs))) ≡ onto x (pieces 10 (xs ++ bs))
    by true h = absurd cc
    by false h = refl

-- what is known early of lines and of what stands behind them
abbrev pub early_run : Taken → ℕ → List ℕ → Option ProjectFault
early_run (Stops f) k rest = Some f
early_run (Goes t) k rest = early_length k rest

pub record Far (n : ℕ) (text : List ℕ) (s : Standing) (m : ℕ) (l : List ℕ) (t : Standing) : Type 0 where
  pub lines : run n (ended_lines text) s ≡ Goes t
  pub rest : behind_feeds text ≡ l
  pub short : length l ≤ LINE_BYTES
  pub number : m ≡ n + length (ended_lines text)
  pub few : m ≤ t.place.bytes + 1
  pub within : t.place.bytes ≤ FILE_BYTES

abbrev pub FedTo : ℕ → List ℕ → Standing → Mind → Type 0
FedTo n text s (Reads m l t) = Far n text s m l t
FedTo n text s (Refuses f) = early_run (run n (ended_lines text) s) (n + length (ended_lines text)) (behind_feeds text) ≡ Some f

-- a first line more
more_line : (n : ℕ) (p bs : List ℕ) (s t : Standing) (m : Mind) → IsLine p → taken n p (length p + 1) s ≡ Goes t → FedTo (n + 1) bs t m
    → FedTo n (p ++ 10 ∷ bs) s m
more_line n p bs s t (Reads m l u) clean h far =
    let ps = pieces-piece 10 p bs clean in
    let lines = ap ended ps ∙ ended-cons p bs in
    record {
      lines = ap (λ ls. run n ls s) lines ∙ ap (then (run (n + 1) (ended_lines bs))) h ∙ far.lines;
      rest = ap last_of ps ∙ last_of-cons p bs ∙ far.rest;
      short = far.short;
      number =
          let k : length (ended_lines (p ++ 10 ∷ bs)) ≡ length (ended_lines bs) + 1 = ap length lines ∙ add_one (ended_lines bs) in omega (arith, far.number);
      few = far.few;
      within = far.within;
    }
  where
    add_one : (ls : List Line) → length (record { bytes = p; is_ended = true } ∷ ls) ≡ length ls + 1
    add_one ls = omega arith
more_line n p bs s t (Refuses f) clean h far =
    let ps = pieces-piece 10 p bs clean in
    let lines = ap ended ps ∙ ended-cons p bs in
    let k : n + length (ended_lines (p ++ 10 ∷ bs)) ≡ n + 1 + length (ended_lines bs) = add_one (ended_lines bs) (ap length lines) in
    ap (λ ls. early_run (run n ls s) (n + length (ended_lines (p ++ 10 ∷ bs))) (behind_feeds (p ++ 10 ∷ bs))) lines
    ∙ ap (λ x. early_run (then (run (n + 1) (ended_lines bs)) x) (n + length (ended_lines (p ++ 10 ∷ bs))) (behind_feeds (p ++ 10 ∷ bs))) h
    ∙ ap (λ x. early_run (run (n + 1) (ended_lines bs) t) x (behind_feeds (p ++ 10 ∷ bs))) k
    ∙ ap (λ x. early_run (run (n + 1) (ended_lines bs) t) (n + 1 + length (ended_lines bs)) x) (ap last_of ps ∙ last_of-cons p bs)
    ∙ far
  where
    add_one : (ls : List Line) → length (ended_lines (p ++ 10 ∷ bs)) ≡ length (record { bytes = p; is_ended = true } ∷ ls)
        → n + length (ended_lines (p ++ 10 ∷ bs)) ≡ n + 1 + length ls
    add_one ls e = omega arith

-- a first line that stops
stopped_line : (n : ℕ) (p bs : List ℕ) (s : Standing) (f : ProjectFault) → IsLine p → taken n p (length p + 1) s ≡ Stops f
    → FedTo n (p ++ 10 ∷ bs) s (Refuses f)
stopped_line n p bs s f clean h =
    let lines = ap ended (pieces-piece 10 p bs clean) ∙ ended-cons p bs in
    ap (λ ls. early_run (run n ls s) (n + length (ended_lines (p ++ 10 ∷ bs))) (behind_feeds (p ++ 10 ∷ bs))) lines
    ∙ ap (λ x. early_run (then (run (n + 1) (ended_lines bs)) x) (n + length (ended_lines (p ++ 10 ∷ bs))) (behind_feeds (p ++ 10 ∷ bs))) h

over : (x y : List ℕ) → LINE_BYTES < length x → ltb LINE_BYTES (length (x ++ y)) ≡ true
over x y h = by (length (x ++ y)) (omega (arith, length-append x y))
  where
    by : (k : ℕ) → LINE_BYTES < k → ltb LINE_BYTES k ≡ true
    by k h = grind (arith, nat_tests)

-- a first line that is too long
long_line : (n : ℕ) (x bs : List ℕ) (s : Standing) → IsLine x → LINE_BYTES < length x → FedTo n (x ++ bs) s (Refuses (LineTooLong n))
long_line n x bs s clean h =
    let q = front x bs clean in
    ap (λ ps. early_run (run n (ended ps) s) (n + length (ended ps)) (last_of ps)) q.is ∙ by (x ++ q.more) q.rest (over x q.more h)
  where
    by : (y : List ℕ) (rest : List (List ℕ)) → ltb LINE_BYTES (length y) ≡ true
        → early_run (run n (ended (y ∷ rest)) s) (n + length (ended (y ∷ rest))) (last_of (y ∷ rest)) ≡ Some (LineTooLong n)
    by y [] e = let k : n + 0 ≡ n = omega arith in ap (λ b. cond b (Some (LineTooLong (n + 0))) None) e ∙ ap (λ k. Some (LineTooLong k)) k
    by y (r ∷ rs) e = rw e refl

clean_one : (p : List ℕ) (b : ℕ) → IsLine p → b ≢ 10 → IsLine (p ++ b ∷ [])
clean_one p b h g = All-append (λ x. x ≢ 10) p (b ∷ []) h (All-cons (λ x. x ≢ 10) b [] g (All-nil (λ x. x ≢ 10)))

-- the number stays that of the line
next_is : (n k : ℕ) → n ≤ k + 1 → k ≤ FILE_BYTES → next n ≡ n + 1
next_is n k h g = omega arith

pub fed_to : (bs p : List ℕ) (n : ℕ) (s : Standing) → IsLine p → length p ≤ LINE_BYTES → n ≤ s.place.bytes + 1 → s.place.bytes ≤ FILE_BYTES
    → FedTo n (p ++ bs) s (fed (Reads n p s) bs)
fed_to [] p n s clean short few within =
    let ps = ap (pieces 10) (append-nil p) ∙ pieces-last 10 p clean in
    let k : n ≡ n + 0 = omega arith in
    record {
      lines = ap (λ x. run n (ended x) s) ps;
      rest = ap last_of ps;
      short = short;
      number = k ∙ sym (ap (λ x. n + length (ended x)) ps);
      few = few;
      within = within;
    }
fed_to (b ∷ bs) p n s clean short few within = by (eqb b 10) refl (λ q t. fed_to bs q (n + 1) t) (λ q. fed_to bs q n s)
  where
    ten : (b : ℕ) → eqb b 10 ≡ true → b ≡ 10
    ten b h = grind (arith, nat_tests)

    no_ten : (b : ℕ) → eqb b 10 ≡ false → b ≢ 10
    no_ten b h = grind (arith, nat_tests)

    at_feed : (o : Taken) → taken n p (length p + 1) s ≡ o
        → ((q : List ℕ) (t : Standing) → IsLine q → length q ≤ LINE_BYTES → n + 1 ≤ t.place.bytes + 1 → t.place.bytes ≤ FILE_BYTES →
        FedTo (n + 1) (q ++ bs) t (fed (Reads (n + 1) q t) bs))
        → FedTo n (p ++ 10 ∷ bs) s (fed (line_done n o) bs)
    at_feed (Stops f) e rec = subst (FedTo n (p ++ 10 ∷ bs) s) (sym (fed_refused f bs)) (stopped_line n p bs s f clean e)
    at_feed (Goes t) e rec =
        let w = goes n p (length p + 1) s t e in
        let r = room s.place n p (length p + 1) w.form (ap (fault_of s.place n p (length p + 1)) (sym w.said) ∙ w.faultless) in
        let bytes : t.place.bytes ≡ s.place.bytes + (length p + 1) = ap (λ x. x.place.bytes) w.is in
        let numbered = next_is n s.place.bytes few within in
        more_line n p bs s t (fed (Reads (next n) [] t) bs) clean e
        (subst (λ k. FedTo (n + 1) bs t (fed (Reads k [] t) bs)) (sym numbered) (rec [] t (All-nil (λ x. x ≢ 10)) (lit≤ tt) (omega arith) (omega (arith, r.0))))

    at_other : (c : Bool) → ltb (length p) LINE_BYTES ≡ c → b ≢ 10
        → ((q : List ℕ) → IsLine q → length q ≤ LINE_BYTES → n ≤ s.place.bytes + 1 → s.place.bytes ≤ FILE_BYTES → FedTo n (q ++ bs) s (fed (Reads n q s) bs))
        → FedTo n (p ++ b ∷ bs) s (fed (cond c (Reads n (p ++ b ∷ []) s) (Refuses (LineTooLong n))) bs)
    at_other true e g rec =
        subst (λ x. FedTo n x s (fed (Reads n (p ++ b ∷ []) s) bs)) (append_assoc p (b ∷ []) bs)
        (rec (p ++ b ∷ []) (clean_one p b clean g) (grow (length p) (length (p ++ b ∷ [])) e (length-append p (b ∷ []))) few within)
      where
        grow : (k m : ℕ) → ltb k LINE_BYTES ≡ true → m ≡ k + 1 → m ≤ LINE_BYTES
        grow k m h e = grind (arith, nat_tests)
    at_other false e g rec =
        subst (FedTo n (p ++ b ∷ bs) s) (sym (fed_refused (LineTooLong n) bs))
        (subst (λ x. FedTo n x s (Refuses (LineTooLong n))) (append_assoc p (b ∷ []) bs) (long_line n (p ++ b ∷ []) bs s (clean_one p b clean g)
        (full (length p) (length (p ++ b ∷ [])) e (length-append p (b ∷ [])))))
      where
        full : (k m : ℕ) → ltb k LINE_BYTES ≡ false → m ≡ k + 1 → LINE_BYTES < m
        full k m h e = grind (arith, nat_tests)

    by : (c : Bool) → eqb b 10 ≡ c
        → ((q : List ℕ) (t : Standing) → IsLine q → length q ≤ LINE_BYTES → n + 1 ≤ t.place.bytes + 1 → t.place.bytes ≤ FILE_BYTES →
        FedTo (n + 1) (q ++ bs) t (fed (Reads (n + 1) q t) bs))
        → ((q : List ℕ) → IsLine q → length q ≤ LINE_BYTES → n ≤ s.place.bytes + 1 → s.place.bytes ≤ FILE_BYTES → FedTo n (q ++ bs) s (fed (Reads n q s) bs))
        → FedTo n (p ++ b ∷ bs) s (fed (cond c (line_done n (taken n p (length p + 1) s)) (pushed n p s b)) bs)
    by true e line rec =
        subst (λ x. FedTo n (p ++ x ∷ bs) s (fed (line_done n (taken n p (length p + 1) s)) bs)) (sym (ten b e))
        (at_feed (taken n p (length p + 1) s) refl line)
    by false e line rec = at_other (ltb (length p) LINE_BYTES) refl (no_ten b e) rec

-- the faults of lines

place_behind : (number : ℕ) (l : Line) (s t : Standing) → Went number l.bytes (size_of l) s t → behind s.place number l ≡ t.place
place_behind number l s t w = ap (behind_said s.place (size_of l)) w.said ∙ sym (ap (λ x. x.place) w.is)

pub run_goes : (n : ℕ) (ls : List Line) (s t : Standing) → run n ls s ≡ Goes t → (first_fault s.place n ls ≡ None) × (behind_all s.place n ls ≡ t.place)
run_goes n [] s t h = let e : s ≡ t = cc in (refl, ap (λ x. x.place) e)
run_goes n (l ∷ ls) s t h = by (taken n l.bytes (size_of l) s) refl h (λ u. run_goes (n + 1) ls u t)
  where
    by : (o : Taken) → taken n l.bytes (size_of l) s ≡ o → then (run (n + 1) ls) o ≡ Goes t
        → ((u : Standing) → run (n + 1) ls u ≡ Goes t → (first_fault u.place (n + 1) ls ≡ None) × (behind_all u.place (n + 1) ls ≡ t.place))
        → (first_fault s.place n (l ∷ ls) ≡ None) × (behind_all s.place n (l ∷ ls) ≡ t.place)
    by (Stops f) e h rec = absurd cc
    by (Goes u) e h rec =
        let w = goes n l.bytes (size_of l) s u e in
        let p = place_behind n l s u w in
        let r = rec u h in (
          ap (λ o. or_else o (first_fault (behind s.place n l) (n + 1) ls)) w.faultless ∙ ap (λ p. first_fault p (n + 1) ls) p ∙ r.0,
          ap
              (λ p. behind_all p (n + 1) ls) p ∙ r.1,
        )

pub run_stops : (n : ℕ) (ls : List Line) (s : Standing) (f : ProjectFault) → run n ls s ≡ Stops f → first_fault s.place n ls ≡ Some f
run_stops n [] s f h = absurd cc
run_stops n (l ∷ ls) s f h = by (taken n l.bytes (size_of l) s) refl h (λ u. run_stops (n + 1) ls u f)
  where
    by : (o : Taken) → taken n l.bytes (size_of l) s ≡ o → then (run (n + 1) ls) o ≡ Stops f
        → ((u : Standing) → run (n + 1) ls u ≡ Stops f → first_fault u.place (n + 1) ls ≡ Some f) → first_fault s.place n (l ∷ ls) ≡ Some f
    by (Stops g) e h rec =
        let same : g ≡ f = cc in ap (λ o. or_else o (first_fault (behind s.place n l) (n + 1) ls)) (stops n l.bytes (size_of l) s g e) ∙ ap Some same
    by (Goes u) e h rec =
        let w = goes n l.bytes (size_of l) s u e in
        ap (λ o. or_else o (first_fault (behind s.place n l) (n + 1) ls)) w.faultless ∙ ap (λ p. first_fault p (n + 1) ls) (place_behind n l s u w) ∙ rec u h
