-- A planner that takes the bans one by one. Assumes nothing.
use Rattle.std.proofs.Common.{◌≡◌, ℕ, ◌+◌, ◌<◌, ◌≤◌, List, [], ◌∷◌, ◌++◌, map, length, get_or, take, drop, Ok, Err, sym, ap, ◌∙◌, subst}
use Rattle.std.proofs.lemmas.List.{take_all, reverse-append}
use Rattle.tickets.specs.Refusals.{Answers, Clear}
use Rattle.tickets.specs.Collections.{held, posted}
use Rattle.tickets.specs.Planner.{number_of}
use Rattle.tickets.specs.declared.collection.Collection.{Collection}
use Rattle.tickets.specs.declared.planner_refusal.PlannerRefusal.{PlannerRefusal}
use Rattle.ticket_file.specs.declared.record.Placed.{Placed}
use Rattle.ticket_file.specs.Format.{Rec, ticket, ceiling, ban, kinds, Begins}
use Rattle.ticket_file.specs.Faults.{Taken}
use Rattle.ticket_file.specs.Readings.{plain}
use Rattle.ticket_file.proofs.Judged.{takes_more}
use Rattle.day.specs.Judging.{Gathered, nothing, with_record, gather, posting}
use Rattle.day.proofs.Gathering.{gather_push}
use Rattle.stores.specs.BitRows.{bit_rows}
use Rattle.stores.specs.declared.bit_store.BitStore.{BitStore}
use Rattle.runs.specs.Tables.{Setting}
use Rattle.runs.specs.Supports.{setting}
use Rattle.runs.specs.Orders.{Order, less, ban as ban_order, ordered}
use Rattle.runs.specs.Ledger.{write}
use Rattle.runs.specs.Planner.{State, Meets, bans, Means, takes, refuses, asked, meaning, with_table}
use Rattle.runs.specs.Whole.{longer}
use Rattle.runs.specs.declared.call.Call.TheVariants.{Ban}
use Rattle.runs.specs.declared.call.Taken.TheVariants.{Done}
use Rattle.planner.specs.declared.state.Planner.{Planner}
use Rattle.planner.specs.States.{setting_of, state_of}
use Rattle.planner.specs.Calls.{Moved}
use Rattle.planned.specs.declared.fault.Fault.{Fault}
use Rattle.planned.specs.declared.fault.Refusal.TheVariants.{Planner as OfPlanner}
use Rattle.planned.specs.Judging.{Cause, collecting, planning, Posts, order, orders, banned, judge}
use Rattle.planned.specs.Records.{recs}
use Rattle.planned.specs.Plans.{Judged, Stands, Ready, BannedAll}
use Rattle.planned.proofs.Tickets.{same_tickets}
use Rattle.planned.proofs.AfterBans.{held_at_ban}
use Rattle.planned.proofs.Records.{blank, around, recs_around, one_more, takes_none}

-- one ban more
orders_more : (g : Gathered) (i t : ℕ) → orders (with_record g (ban i t)) ≡ ban_order i t ∷ orders g
orders_more g i t = ap (map order) (reverse-append g.bans ((i, t) ∷ []))

-- what a ban comes to, by its meaning
module _ (w : Setting) (s s' : State) (i t : ℕ) where
  ban_taken : Means w s (Ban i t) (Ok Done) s' → Clear (meaning w) (asked s (Ban i t)) × (s' ≡ with_table s (less (ban_order i t) s.standing))
  ban_taken (takes clear (bans is)) = (clear, is)

  ban_refused : (e : PlannerRefusal) → Means w s (Ban i t) (Err e) s' → Answers (meaning w) (asked s (Ban i t)) e
  ban_refused e (takes clear done) = elim done [ ]
  ban_refused e (refuses answers is) = answers

-- the planner takes one ban more
stands_more : (g : Gathered) (m n : Planner BitStore) (i t : ℕ) → Stands g m → Moved bit_rows m (Ban i t) (Ok Done) n → Stands (with_record g (ban i t)) n
stands_more g m n i t s moved =
    let ts = posted m.collection in
    let is = (ban_taken (setting_of m) (state_of bit_rows m) (state_of bit_rows n) i t moved.means).1 in
    let more : List Order = ban_order i t ∷ orders g in
    let then : state_of bit_rows n ≡ banned ts (with_record g (ban i t)) =
    is ∙ ap (λ (x : State). with_table x (less (ban_order i t) x.standing)) s.state ∙ ap (λ os. with_table (banned ts g) (ordered (setting ts) os)) (sym (orders_more g i t))
    in
    record {
      collection = ap held moved.collection ∙ s.collection;
      state = then ∙ ap (λ (c : Collection). banned (posted c) (with_record g (ban i t))) (sym moved.collection);
      history = longer s.history (Ban i t) (Ok Done);
      reached = (moved.onward s.history s.reached).reached;
      told = ap (write (ban_order i t)) s.told ∙ ap (λ os. record { page = os; below = []; ceiling = g.held.ceiling }) (sym (orders_more g i t));
    }

-- what is held after all records, with the bans of some of them
abbrev pub ending : List Rec → List Rec → Gathered
ending all rs = record { held = (gather nothing all).held; bans = (gather nothing rs).bans }

-- a ban comes after some records, and the planner has taken the bans before it
module _ (all before after : List Rec) (i t : ℕ) (are : all ≡ before ++ ban i t ∷ after) (begins : Begins (kinds all)) (m : Planner BitStore) (s : Stands (ending all before) m) where
  abbrev g : Gathered
  g = gather nothing before

  held_now : g.held ≡ (gather nothing all).held
  held_now = held_at_ban before after i t (subst (λ l. Begins (kinds l)) are begins) ∙ ap (λ l. (gather nothing l).held) (sym are)

  posts_now : Posts g (posted m.collection)
  posts_now = ap (λ h. h.tickets) (s.collection ∙ sym held_now)

  state_now : state_of bit_rows m ≡ banned (posted m.collection) g
  state_now = s.state ∙ ap (λ h. banned (posted m.collection) (record { held = h; bans = g.bans })) (sym held_now)

  -- what the judge asks of a ban is what the planner asks
  ask : (e : PlannerRefusal) → (judge (planning e)).meets (before, ban i t) → Meets (setting_of m) (state_of bit_rows m) e (Ban i t)
  ask e (ts, ps, meets) =
      let same : ts ≡ posted m.collection = same_tickets ts (posted m.collection) (ps ∙ sym posts_now) in
      subst (λ x. Meets (setting_of m) x e (Ban i t)) (sym state_now) (subst (λ us. Meets (setting us) (banned us g) e (Ban i t)) same meets)

  asked_back : (e : PlannerRefusal) → Meets (setting_of m) (state_of bit_rows m) e (Ban i t) → (judge (planning e)).meets (before, ban i t)
  asked_back e meets = (posted m.collection, posts_now, subst (λ x. Meets (setting_of m) x e (Ban i t)) state_now meets)

  ban_clear : Clear (meaning (setting_of m)) (asked (state_of bit_rows m) (Ban i t)) → Clear judge (before, ban i t)
  ban_clear clear (collecting e) h = h
  ban_clear clear (planning e) h = clear e (ask e h)

  ban_answers : (e : PlannerRefusal) → Answers (meaning (setting_of m)) (asked (state_of bit_rows m) (Ban i t)) e → Answers judge (before, ban i t) (planning e)
  ban_answers e answers = record { meets = asked_back e answers.meets; first = lower }
    where
      lower : (c : Cause) → (judge c).number < number_of e → (judge c).meets (before, ban i t) → ⊥
      lower (collecting d) l h = h
      lower (planning d) l h = answers.first d l (ask d h)

-- one record more is taken
step :
    (all before after : List Rec) (r : Rec) → all ≡ before ++ r ∷ after → Begins (kinds all) → Taken posting all → (m n : Planner BitStore) (p : ℕ) (u : Unit) →
    Stands (ending all before) m → Judged m r p (Ok u) n → Clear judge (before, r) × Stands (ending all (before ++ r ∷ [])) n
step all before after (ticket x label) are begins posts m n p u s same =
    (other, subst (λ g. Stands (record { held = (gather nothing all).held; bans = g.bans }) n) (sym (gather_push nothing before (ticket x label))) (subst (Stands (ending all before)) (sym same) s))
  where
    other : Clear judge (before, ticket x label)
    other (collecting e) h = posts before after (ticket x label) are e h
    other (planning e) h = h
step all before after (ceiling v) are begins posts m n p u s same =
    (other, subst (λ g. Stands (record { held = (gather nothing all).held; bans = g.bans }) n) (sym (gather_push nothing before (ceiling v))) (subst (Stands (ending all before)) (sym same) s))
  where
    other : Clear judge (before, ceiling v)
    other (collecting e) h = posts before after (ceiling v) are e h
    other (planning e) h = h
step all before after (ban i t) are begins posts m n p u s moved = (
  ban_clear all before after i t are begins m s (ban_taken (setting_of m) (state_of bit_rows m) (state_of bit_rows n) i t moved.means).0,
  subst (λ g. Stands (record { held = (gather nothing all).held; bans = g.bans }) n) (sym (gather_push nothing before (ban i t))) (stands_more (ending all before) m n i t s moved),
)

-- a record that is refused is a ban, and the judge refuses it
stop :
    (all before after : List Rec) (r : Rec) → all ≡ before ++ r ∷ after → Begins (kinds all) → (m n : Planner BitStore) (p : ℕ) (f : Fault) →
    Stands (ending all before) m → Judged m r p (Err f) n → (e : PlannerRefusal) × Answers judge (before, r) (planning e) × (f ≡ record { refusal = OfPlanner e; place = p })
stop all before after (ticket x label) are begins m n p f s h = absurd h
stop all before after (ceiling v) are begins m n p f s h = absurd h
stop all before after (ban i t) are begins m n p f s (e, moved, at) = (e, ban_answers all before after i t are begins m s e (ban_refused (setting_of m) (state_of bit_rows m) (state_of bit_rows n) i t e moved.means), at)

-- the first k records are taken, their bans by the planner m
abbrev pub Sofar : List Placed → ℕ → Planner BitStore → Type 0
Sofar xs k m = Taken judge (recs (take k xs)) × Stands (ending (recs xs) (recs (take k xs))) m

pub none_banned : (xs : List Placed) (m : Planner BitStore) → Ready xs m → Sofar xs 0 m
none_banned xs m ready = (takes_none judge, ready.stands)

module _ (xs : List Placed) (k : ℕ) (first m n : Planner BitStore) (ready : Ready xs first) (lt : k < length xs) (sofar : Sofar xs k m) where
  recs_are : recs xs ≡ recs (take k xs) ++ plain (get_or xs k blank).record ∷ recs (drop (k + 1) xs)
  recs_are = ap recs (around xs k blank lt) ∙ recs_around (take k xs) (drop (k + 1) xs) (get_or xs k blank)

  pub banned_more : (u : Unit) → Judged m (plain (get_or xs k blank).record) (get_or xs k blank).place (Ok u) n → Sofar xs (k + 1) n
  banned_more u judged =
      let next = step (recs xs) (recs (take k xs)) (recs (drop (k + 1) xs)) (plain (get_or xs k blank).record) recs_are ready.order ready.posted m n (get_or xs k blank).place u sofar.1 judged in
      subst (λ l. Taken judge l × Stands (ending (recs xs) l) n) (sym (one_more xs k blank lt)) (takes_more judge (recs (take k xs)) (plain (get_or xs k blank).record) sofar.0 next.0, next.1)

  pub banned_first : (f : Fault) → Judged m (plain (get_or xs k blank).record) (get_or xs k blank).place (Err f) n → BannedAll xs (Err f) n
  banned_first f judged =
      let (e, answers, at) = stop (recs xs) (recs (take k xs)) (recs (drop (k + 1) xs)) (plain (get_or xs k blank).record) recs_are ready.order m n (get_or xs k blank).place f sofar.1 judged in (
        e,
        record {
          before = take k xs;
          it = get_or xs k blank;
          after = drop (k + 1) xs;
          are = around xs k blank lt;
          taken = sofar.0;
          answers = answers;
          place = ap (λ y. y.place) at;
        },
        ap (λ y. y.refusal) at,
      )

pub all_banned : (xs : List Placed) (k : ℕ) (m : Planner BitStore) → length xs ≤ k → Sofar xs k m → BannedAll xs (Ok tt) m
all_banned xs k m l s = subst (λ y. Taken judge (recs y) × Stands (ending (recs xs) (recs y)) m) (take_all k xs l) s
