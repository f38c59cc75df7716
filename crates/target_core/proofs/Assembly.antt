-- What is assembled runs as the byte machine does.
use Rattle.std.proofs.Common.{◌≡◌, ℕ, zero, suc, ◌+◌, ◌*◌, ◌<◌, ◌≤◌, List, [], ◌∷◌, ◌++◌, length, Some, true, false, refl, sym, ap, subst, ◌∙◌, arith}
use Rattle.std.specs.Prelude.{slice_get, slice_index, sum_by, map}
use Rattle.std.proofs.lemmas.List.Sums.{sum_by-cons}
use Rattle.chip_tables.specs.Outside.{no_reading}
use Rattle.byte_code.specs.declared.prim.Paced.{Paced}
use Rattle.byte_code.specs.declared.state.Bytes.{Bytes}
use Rattle.byte_code.specs.Machine.{act, label_place}
use Rattle.target_core.specs.Law.{Leads, LeadsFrom, Moves, Target, MachineLaw, Layout, IsReady, label_named}
use Rattle.target_core.specs.Laid.{Form, LaidLaw, MayBegin, IsFollowed, paced_of, LaidHolds}
use Rattle.target_core.specs.Whole.{places_from, words_sum, cycles_sum, boot_sum, laid, IsWhole, RunsAs}
use Rattle.target_core.specs.Image.{image_from, table_from}
use Rattle.target_core.proofs.Runs.{whole}
use Rattle.target_core.proofs.Paths.{leads_as}
use Rattle.target_core.proofs.Images.{places_next, places_within, places_up, has_here, image_at, length-image}
use Rattle.target_core.proofs.Labels.{table_has}

module _ {M : Type 0} (t : Target M) where
  abbrev form_of : Paced → Form
  form_of p = record { paced = p; cycles = t.cycles_in p.prim; enter = t.enter_in p.prim; leave = t.leave_in p.prim }

  same_code : (code : List Paced) → paced_of (map form_of code) ≡ code
  same_code [] = refl
  same_code (p ∷ ps) = ap (λ c. p ∷ c) (same_code ps)

  sum_forms : (n : Paced → ℕ) (code : List Paced) → sum_by (λ f. f.cycles * n f.paced) (map form_of code) ≡ sum_by (λ p. t.cycles_in p.prim * n p) code
  sum_forms n [] = refl
  sum_forms n (p ∷ ps) = sum_by-cons (λ f. f.cycles * n f.paced) (form_of p) (map form_of ps) ∙ ap (λ k. t.cycles_in p.prim * n p + k) (sum_forms n ps)
      ∙ sym (sum_by-cons (λ q. t.cycles_in q.prim * n q) p ps)

  -- the form at a place is that of the primitive there
  form_is : (code : List Paced) (i : ℕ) (f : Form) → slice_get (map form_of code) i ≡ Some f → (slice_get code i ≡ Some f.paced) × (form_of f.paced ≡ f)
  form_is [] i f e = absurd (cc)
  form_is (p ∷ ps) zero f e = let g : form_of p ≡ f = cc in let h : p ≡ f.paced = ap (λ x. x.paced) g in (ap Some h, ap form_of (sym h) ∙ g)
  form_is (p ∷ ps) (suc i) f e = form_is ps i f e

module _ {M : Type 0} (t : Target M) (code : List Paced) (is_whole : IsWhole t code) (fits : words_sum t code ≤ t.size) where
  module _ (law : MachineLaw t) where
    -- where a primitive that has words stands at the place or behind it, the place is inside the flash
    below_size : (place : ℕ) → IsFollowed code place → slice_index (places_from t.words_in 0 code) place < t.size
    below_size place f =
        let q = f.1 in
        let some = law.worded q.prim (is_whole.admitted f.0 q f.2) f.3 in
        omega (
          arith,
          some,
          places_up t.words_in 0 code place f.0 q f.4 f.2,
          places_next t.words_in 0 code f.0 q f.2,
          places_within t.words_in 0 code f.0 q f.2,
          fits,
        )

    -- a label that is named has its place in the table, inside the flash
    pub label_has : (i l : ℕ) (p : Paced) → slice_get code i ≡ Some p → label_named p.prim ≡ Some l →
        (l < length (table_from t.words_in 0 [] code)) × (slice_index (table_from t.words_in 0 [] code) l ≡ slice_index (places_from t.words_in 0 code)
        (label_place code l)) × (slice_index (table_from t.words_in 0 [] code) l < t.size)
    label_has i l p e named =
        let k = is_whole.labels i l p e named in
        let h = table_has t.words_in l 0 [] code (label_place code l) k.stands.0 k.stands.1 k.stands.2 k.once in
        let low = below_size (label_place code l) (k.before.0, k.before.1, k.before.2, k.before.3, omega (arith, k.before.4)) in
        (h.1, h.0, omega (arith, h.0, low))

    abbrev labels : List ℕ
    labels = table_from t.words_in 0 [] code

    abbrev places : List ℕ
    places = places_from t.words_in 0 code

    sized : (i : ℕ) (p : Paced) → slice_get code i ≡ Some p → (k : ℕ) → length (t.emitted p.prim k labels) ≡ t.words_in p.prim
    sized i p e k = law.sized p.prim k labels (is_whole.admitted i p e)

    pub length_whole : length (image_from t labels 0 code) ≡ words_sum t code
    length_whole = length-image t labels 0 code sized

    module _ (rest : List ℕ) where
      abbrev flash : List ℕ
      flash = image_from t labels 0 code ++ rest

      abbrev lay : Layout
      lay = record { code = code; places = places; labels = labels; flash = flash }

      ready : (s : Bytes) (f : Form) → MayBegin (map (form_of t) code) s f → IsReady t lay s f.paced.prim
      ready s f may =
          let e = (form_is t code s.place f may.at).0 in
          record {
            admitted = is_whole.admitted s.place f.paced e;
            loaded = image_at t labels flash 0 code s.place f.paced e sized (has_here [] (image_from t labels 0 code) rest);
            next = places_next t.words_in 0 code s.place f.paced e;
            inside = omega (arith, places_within t.words_in 0 code s.place f.paced e, fits);
            label = λ l named. let h = label_has s.place l f.paced e named in (h.1, h.2);
            begins = may.begins;
            fits = may.fits;
          }

      -- in a poll the primitive is the one at the place
      polled : (s : Bytes) (f : Form) (m : M) → MayBegin (map (form_of t) code) s f → (laid t code flash).awaits m s → t.awaits places f.paced.prim m s
      polled s f m may a =
          let e = (form_is t code s.place f may.at).0 in
          let same : a.0 ≡ f.paced = cc (a.1, e) in
          subst (λ p. t.awaits places p.prim m s) same a.2

      awaiting : (s : Bytes) (f : Form) → MayBegin (map (form_of t) code) s f → (m : M) → t.awaits places f.paced.prim m s → (laid t code flash).awaits m s
      awaiting s f may m a = (f.paced, (form_is t code s.place f may.at).0, a)

      laid_law : LaidLaw (laid t code flash) code (map (form_of t) code)
      laid_law = record {
        plain = λ m s f may q follows st. subst (λ n. Moves (t.step flash) (t.stands places) m n s (act code f.paced.prim s false no_reading))
            (ap (λ x. x.cycles) (form_is t code s.place f may.at).1) (law.plain lay m s f.paced.prim (ready s f may) q
            (below_size (act code f.paced.prim s false no_reading).next.place follows) st);
        enters = λ m s f may ne st. subst (λ n. Leads (t.step flash) (λ m'. (laid t code flash).awaits m' s) m n [])
            (ap (λ x. x.enter) (form_is t code s.place f may.at).1) (leads_as (t.step flash) (λ m'. t.awaits places f.paced.prim m' s)
            (λ m'. (laid t code flash).awaits m' s) (awaiting s f may) m _ [] (law.enters lay m s f.paced.prim (ready s f may) ne st));
        asks = λ m s f may ne a. law.asks lay m s f.paced.prim (ready s f may) ne (polled s f m may a);
        waits = λ m s f may ne a. let x = law.waits lay m s f.paced.prim (ready s f may) ne
            (polled s f m may a) in record {
              went = x.went;
              is = x.is;
              left = x.left;
              bound = x.bound;
              rest = x.rest;
              said = x.said;
              further = leads_as (t.step flash) (λ m'. t.awaits places f.paced.prim m' s) (λ m'. (laid t code flash).awaits m' s)
                  (awaiting s f may) x.went.next x.left x.rest x.further;
            };
        leaves = λ m s f r legal may ne follows a. subst (λ n. LeadsFrom (t.step flash) (λ m'. t.stands places m' (act code f.paced.prim s true r).next)
            (t.step flash m true r) n []) (ap (λ x. x.leave) (form_is t code s.place f may.at).1)
            (law.leaves lay m s f.paced.prim r legal (ready s f may) ne (below_size (act code f.paced.prim s true r).next.place follows)
            (polled s f m may a));
        within = λ i f h ne. let e = (form_is t code i f h).1 in omega
            (arith, law.within f.paced.prim ne, ap (λ x. x.cycles) e, ap (λ x. x.enter) e, ap (λ x. x.leave) e);
        shown = λ m s a. law.shown places a.0.prim m s a.2;
      }

    pub runs_as : RunsAs t code (image_from t labels 0 code) (cycles_sum t code) (boot_sum t code)
    runs_as rest m s readings answers fresh legal stands keeps n c e =
        let h = whole (laid t code (flash rest)) code (map (form_of t) code) (same_code t code)
        (laid_law rest) s readings answers keeps is_whole.first is_whole.others fresh legal m stands n c e in
        subst (λ k. LaidHolds (laid t code (flash rest)) code s readings answers k (boot_sum t code) c) (sum_forms t (λ p. p.turns) code)
        (subst (λ k. LaidHolds (laid t code (flash rest)) code s readings answers (sum_by (λ f. f.cycles * f.paced.turns) (map (form_of t) code)) k c)
        (sum_forms t (λ p. p.boot) code) h)
