-- The steps of a reduction, from its start to the largest supported set.
use Rattle.std.proofs.Common.{◌≡◌, ℕ, ◌+◌, ◌<◌, ◌≤◌, Bool, false, cond, eqb, ltb, ◌≢◌, ◌⊎◌, List, [], ◌∷◌, length, get_or, set, Decides, sym, ap, ◌∙◌, subst, subst₂, inl, inr, ⊎_elim, arith}
use Rattle.std.proofs.lemmas.List.{length-set, get_or-set_same, get_or-set_other, get_or_past}
use Rattle.std.proofs.lemmas.List.Sums.{sum_by-take-le}
use Rattle.std.proofs.lemmas.Bool.{cases_eq, cases_lt, cases_Bool, both_ways, false≢true, lt-ltb, ltb-true}
use Rattle.structure.specs.Problem.{Numbers, Problem, Member, Within, Bounded, Takes, MadeIn}
use Rattle.structure.specs.Supported.{Supported, Largest}
use Rattle.drawing.specs.Flags.{flagged}
use Rattle.drawing.specs.Reduction.{Among, times, arcs, Untaken, Unmade, Enlisted, Seeded, Reducing, Released}
use Rattle.drawing.proofs.Entries.{names_first, names_rest, names_either}
use Rattle.drawing.proofs.Arcs.{arcs_removed, made_arcs, arcs_made}

-- one unit less is live
module _ (live : List Bool) (v : ℕ) (was : Member (flagged live) v) where
  live_inside : v < length live
  live_inside = ⊎_elim (λ (l : v < length live). l) (λ (l : length live ≤ v). absurd (false≢true (sym (get_or_past live v false l) ∙ was))) (cases_lt v (length live))

  pub gone : flagged (set live v false) v ≡ false
  gone = get_or-set_same live v false false live_inside

  others : (u : ℕ) → u ≢ v → flagged (set live v false) u ≡ flagged live u
  others u e = get_or-set_other live v u false false e

  pub still_live : (u : ℕ) → Member (flagged (set live v false)) u → Member (flagged live) u × (u ≢ v)
  still_live u i =
      ⊎_elim
      (λ (e : u ≡ v). absurd (both_ways (flagged (set live v false) v) gone (ap (flagged (set live v false)) (sym e) ∙ i)))
      (λ (e : u ≡ v → ⊥). (sym (others u e) ∙ i, e))
      (cases_eq u v)

-- the material that is taken up
pub taken_up : {p : Problem} {live : List Bool} {ms q : List ℕ} {m : ℕ} → Reducing p live ms (m ∷ q) → Unmade p ms m
taken_up {p} {live} {ms} {q} {m} t = t.unmade m (names_first m q)

module _ (p : Problem) (b : Bounded p) where
  -- what standing units make is counted
  made_counted : (o : Numbers) (x : ℕ) → Within o p.standing → MadeIn p o x → 1 ≤ arcs p o x
  made_counted o x stand h = made_arcs p x o h.0 (p.units + 1) (omega (arith, b.units_known h.0 (stand h.0 h.1))) h.1 h.2

  -- what is enlisted and seeded can be reduced
  pub reducing_starts : {live : List Bool} {ms q : List ℕ} → Enlisted p live ms (p.units + 1) → Seeded p ms q (p.materials + 1) → Reducing p live ms q
  reducing_starts {live} {ms} {q} t s =
      record {
        live_long = t.live_long;
        makers_long = t.makers_long;
        counted = t.counted;
        eligible = λ u i. ((t.chosen u).0 i).1;
        unmade = s.unmade;
        room = omega (arith, s.room, sum_by-take-le (λ (y : ℕ). cond (eqb 0 y) 1 0) ms (p.materials + 1));
        settled = λ x h. inl (s.all x (omega (arith, h.known)) h);
        inside = λ o sup u i.
            let stands = sup.stand u i in
            (t.chosen u).1 (omega (arith, b.units_known u stands), record { stands = stands; none_bought = λ x. sup.none_bought u x i });
      }

  module _ {live : List Bool} {ms q : List ℕ} {m : ℕ} (t : Reducing p live ms (m ∷ q)) where
    -- a live unit that takes it goes
    module _ (v : ℕ) (was : Member (flagged live) v) (takes : Takes p v m) where
      known : v < p.units + 1
      known = omega (arith, b.units_known v (t.eligible v was).stands)

      pub removed_counts : (x : ℕ) → arcs p (flagged (set live v false)) x + times x (p.outputs v) ≡ arcs p (flagged live) x
      removed_counts x = arcs_removed p x (flagged live) (flagged (set live v false)) v (p.units + 1) known was (gone live v was) (others live v was)

      -- it is in no supported set
      unsupported : (s : Numbers) → Supported p s → Member s v → ⊥
      unsupported s sup i =
          ⊎_elim
          (λ (h : Member p.bought m). (taken_up t).unbought h)
          (λ (h : MadeIn p s m).
          let made : MadeIn p (flagged live) m = (h.0, t.inside s sup h.0 h.1, h.2) in
          omega (arith, (taken_up t).none, t.counted m, made_counted (flagged live) m (λ u j. (t.eligible u j).stands) made))
          (sup.fed v m i takes)

      module _ {ms' q' : List ℕ} (r : Released (p.outputs v) ms q ms' q') where
        -- what had no maker has none now
        still_unmade : (x : ℕ) → Unmade p ms x → Unmade p ms' x
        still_unmade x h = record { some = h.some; known = h.known; none = omega (arith, r.counts x, h.none); unbought = h.unbought }

        unmade' : (x : ℕ) → Among x (m ∷ q') → Unmade p ms' x
        unmade' x i = ⊎_elim (λ (e : x ≡ m). subst (Unmade p ms') (sym e) (still_unmade m (taken_up t))) new (names_either x m q' i)
          where
            lost : (get_or ms' x 0 ≡ 0) × Among x (p.outputs v) → Unmade p ms' x
            lost h = let k = b.outputs_known v x h.1 in record { some = k.0; known = k.1; none = h.0; unbought = (t.eligible v was).none_bought x h.1 }

            new : Among x q' → Unmade p ms' x
            new j = ⊎_elim (λ k. still_unmade x (t.unmade x (names_rest x m q k))) lost (r.added x j)

        settled' : (x : ℕ) → Unmade p ms' x → Among x (m ∷ q') ⊎ Untaken p (flagged (set live v false)) x
        settled' x h =
            ⊎_elim
            (λ (z : get_or ms x 0 ≡ 0). before (t.settled x (record { some = h.some; known = h.known; none = z; unbought = h.unbought })))
            (λ j. inl (names_rest x m q' j))
            (r.all x h.none)
          where
            waits_on : Among x (m ∷ q) → Among x (m ∷ q')
            waits_on j =
                ⊎_elim
                (λ (e : x ≡ m). subst (λ (y : ℕ). Among y (m ∷ q')) (sym e) (names_first m q'))
                (λ k. names_rest x m q' (r.kept x k))
                (names_either x m q j)

            before : Among x (m ∷ q) ⊎ Untaken p (flagged live) x → Among x (m ∷ q') ⊎ Untaken p (flagged (set live v false)) x
            before (inl j) = inl (waits_on j)
            before (inr n) = inr (λ u i. n u (still_live live v was u i).0)

        pub reducing_removed : Reducing p (set live v false) ms' (m ∷ q')
        reducing_removed =
            record {
              live_long = length-set live v false ∙ t.live_long;
              makers_long = r.long ∙ t.makers_long;
              counted = λ x. omega (arith, r.counts x, t.counted x, removed_counts x);
              eligible = λ u i. t.eligible u (still_live live v was u i).0;
              unmade = unmade';
              room = omega (arith, r.grown, t.room);
              settled = settled';
              inside = λ s sup u i. others live v was u (λ e. unsupported s sup (subst (Member s) e i)) ∙ t.inside s sup u i;
            }

    -- no live unit takes it any more
    pub reducing_passed : Untaken p (flagged live) m → Reducing p live ms q
    reducing_passed none =
        record {
          live_long = t.live_long;
          makers_long = t.makers_long;
          counted = t.counted;
          eligible = t.eligible;
          unmade = λ x i. t.unmade x (names_rest x m q i);
          room = omega (arith, t.room);
          settled = λ x h. ⊎_elim
              (λ j. ⊎_elim (λ (e : x ≡ m). inr (subst (Untaken p (flagged live)) (sym e) none)) (λ k. inl k) (names_either x m q j))
              (λ n. inr n)
              (t.settled x h);
          inside = t.inside;
        }

  -- nothing waits
  module _ {live : List Bool} {ms : List ℕ} (t : Reducing p live ms []) where
    pub reduced_counted : (x : ℕ) → Decides (ltb 0 (get_or ms x 0)) (MadeIn p (flagged live) x)
    reduced_counted x = (
      (λ h. arcs_made p x (flagged live) (p.units + 1) (omega (arith, ltb-true 0 (get_or ms x 0) h, t.counted x))),
      (λ h. lt-ltb 0 (get_or ms x 0) (omega (arith, t.counted x, made_counted (flagged live) x (λ u i. (t.eligible u i).stands) h))),
    )

    fed : (u x : ℕ) → Member (flagged live) u → Takes p u x → Member p.bought x ⊎ MadeIn p (flagged live) x
    fed u x i j = ⊎_elim (λ h. inl h) unbought (cases_Bool (p.bought x))
      where
        unbought : p.bought x ≡ false → Member p.bought x ⊎ MadeIn p (flagged live) x
        unbought free =
            ⊎_elim
            (λ (z : get_or ms x 0 < 1).
            let k = b.inputs_known u x j in
            let unmade : Unmade p ms x = record { some = k.0; known = k.1; none = omega arith; unbought = both_ways (p.bought x) free } in
            absurd (⊎_elim false≢true (λ (n : Untaken p (flagged live) x). n u i j) (t.settled x unmade)))
            (λ (z : 1 ≤ get_or ms x 0). inr (arcs_made p x (flagged live) (p.units + 1) (omega (arith, t.counted x))))
            (cases_lt (get_or ms x 0) 1)

    pub reduced_largest : Largest p (flagged live)
    reduced_largest =
        record {
          supported = record { stand = λ u i. (t.eligible u i).stands; none_bought = λ u x i. (t.eligible u i).none_bought x; fed = fed };
          all = t.inside;
        }

pub reducing_same : {p : Problem} {live live' : List Bool} {ms ms' q q' : List ℕ} →
    live' ≡ live → ms' ≡ ms → q' ≡ q → Reducing p live ms q → Reducing p live' ms' q'
reducing_same {p} {live} {live'} {ms} {ms'} {q} {q'} e f g t =
    subst (λ (l : List Bool). Reducing p l ms' q') (sym e) (subst₂ (λ (n k : List ℕ). Reducing p live n k) (sym f) (sym g) t)
