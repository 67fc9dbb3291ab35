-- What is assumed of a setting, and what it gives of tables. Assumes nothing.
use Rattle.std.proofs.Common.{◌≡◌, ℕ, ◌<◌, ◌≤◌, true, false, ◌&&◌, eqb, ltb, refl, subst, ⊎_elim, le_refl, arith}
use Rattle.std.proofs.lemmas.Bool.{cases_Bool, both_ways, and_parts, and_from, and_left, eqb-true, eq-eqb, lt-ltb, le-ltb, le-leb}
use Rattle.std.proofs.lemmas.Bool.Decides.{nat_tests}
use Rattle.stores.proofs.Firsts.{earliest_least}
use Rattle.runs.specs.Tables.{Table, Plan, Setting, posted, Within, Full, PastEmpty, Releases, SelfSupporting}

-- No ticket is without a start. What releases support, lower ones support; what a ceiling supports, a higher one supports; and the starts
-- of an affordable plan, as releases, support each of them.
pub record Laws (w : Setting) : Type 0 where
  pub rows : (i : ℕ) → i < w.tickets → w.first i ≤ w.last i
  pub fall : (r r' : ℕ → ℕ) (i t U : ℕ) → ((j : ℕ) → j < w.tickets → r' j ≤ r j) → w.supports r i t U → w.supports r' i t U
  pub rise : (r : ℕ → ℕ) (i t U V : ℕ) → U ≤ V → w.supports r i t U → w.supports r i t V
  pub plan : (s : Plan) (U : ℕ) → w.affords s U → (i : ℕ) → i < w.tickets → w.supports s i (s i) U

-- r releases no ticket after a start of its row
abbrev pub Early : Setting → Table → (ℕ → ℕ) → Type 0
Early w T r = (i t : ℕ) → i < w.tickets → T i t ≡ true → r i ≤ t

-- the table of one plan
abbrev pub one : Setting → Plan → Table
one w s i t = ltb i w.tickets && eqb (s i) t

pub within_trans : {R S T : Table} → Within R S → Within S T → Within R T
within_trans f g i t h = g i t (f i t h)

module _ (w : Setting) where
  pub within_past : {T S : Table} → Within T S → PastEmpty w S → PastEmpty w T
  within_past {T} f e i t l = ⊎_elim (λ (h : T i t ≡ true). absurd (both_ways _ (e i t l) (f i t h))) (λ (h : T i t ≡ false). h) (cases_Bool (T i t))

  pub within_full : {T S : Table} → Within T S → Full w T → Full w S
  within_full f h i l = let (t, on) = h i l in (t, f i t on)

  pub posted_past : PastEmpty w (posted w)
  posted_past i t l = and_left _ _ (le-ltb i w.tickets l)

  pub releases_early : {T : Table} {r : ℕ → ℕ} → Releases w T r → Early w T r
  releases_early {T} {r} h i t l on = earliest_least (T i) 0 (r i) t (h i l) (omega arith) on

  pub within_early : {T S : Table} {r : ℕ → ℕ} → Within T S → Early w S r → Early w T r
  within_early f h i t l on = h i t l (f i t on)

  one_releases : (s : Plan) → Releases w (one w s) s
  one_releases s i l = record { reached = omega arith; held = and_from _ _ (lt-ltb i w.tickets l) (eq-eqb (s i) (s i) refl); gap = λ t _ m. grind (arith, nat_tests) }

  pub one_held : (s : Plan) (i : ℕ) → i < w.tickets → one w s i (s i) ≡ true
  one_held s i l = (one_releases s i l).held

  pub one_within : (s : Plan) (S : Table) → ((i : ℕ) → i < w.tickets → S i (s i) ≡ true) → Within (one w s) S
  one_within s S h i t e =
      let (l, same) = and_parts (ltb i w.tickets) (eqb (s i) t) e in
      subst (λ u. S i u ≡ true) (eqb-true (s i) t same) (h i (grind (arith, nat_tests)))

  module _ (ok : Laws w) where
    pub posted_full : Full w (posted w)
    posted_full i l = (w.first i, and_from _ _ (lt-ltb i w.tickets l) (and_from _ _ (le-leb (w.first i) (w.first i) (le_refl _)) (le-leb (w.first i) (w.last i) (ok.rows i l))))

    -- a table that supports itself does so under a higher ceiling
    pub self_up : {U V : ℕ} {T : Table} → U ≤ V → SelfSupporting w U T → SelfSupporting w V T
    self_up {U} {V} le h = record { full = h.full; supported = λ i t l on. let (r, rel, sup) = h.supported i t l on in (r, rel, ok.rise r i t U V le sup) }

    -- each of its starts is supported by early releases
    pub self_early : {U : ℕ} {T : Table} {r : ℕ → ℕ} → SelfSupporting w U T → Early w T r → (i t : ℕ) → i < w.tickets → T i t ≡ true → w.supports r i t U
    self_early {U} {T} {r} h e i t l on =
        let (q, rel, sup) = h.supported i t l on in
        ok.fall q r i t U (λ j m. e j (q j) m (rel j m).held) sup

    -- the table of one affordable plan supports itself
    pub one_self : (s : Plan) (U : ℕ) → w.affords s U → SelfSupporting w U (one w s)
    one_self s U a = record {
      full = λ i l. (s i, one_held s i l);
      supported = λ i t l on.
          let (_, same) = and_parts (ltb i w.tickets) (eqb (s i) t) on in
          (s, one_releases s, subst (λ u. w.supports s i u U) (eqb-true (s i) t same) (ok.plan s U a i l));
    }
