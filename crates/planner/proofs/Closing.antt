-- What keep and undo come to, by what became of the token. Assumes nothing.
use Rattle.std.proofs.Common.{◌≡◌, List, [], ◌∷◌, ◌++◌, reverse, Ok, Err, ap, ◌∙◌}
use Rattle.stores.specs.Sets.{Rows}
use Rattle.stores.specs.BitRows.{bit_rows}
use Rattle.stores.specs.declared.bit_store.BitStore.{BitStore}
use Rattle.runs.specs.Planner.{Newest, keeps, undoes, takes}
use Rattle.runs.specs.declared.call.Call.TheVariants.{Keep, Undo}
use Rattle.runs.specs.declared.call.Taken.TheVariants.{Done}
use Rattle.runs.proofs.Refusals.{keep_16, keep_free, undo_16, undo_free}
use Rattle.planner.specs.declared.state.Planner.{Planner}
use Rattle.planner.specs.declared.token.Token.{Token}
use Rattle.planner.specs.declared.token.TokenRefused.{TokenRefused}
use Rattle.planner.specs.Sets.{union}
use Rattle.planner.specs.Levels.{at_marks}
use Rattle.planner.specs.States.{setting_of, state_of}
use Rattle.planner.specs.Closing.{Stale}
use Rattle.planner.specs.Calls.{Moved}
use Rattle.planner.proofs.Marks.{newest_last, state_same}
use Rattle.planner.proofs.Going.{goes_on, refused}

module _ {S : Type 0} (rows : S → Rows) (p : Planner S) (t : Token) where
  module _ (x : TokenRefused) (stale : Stale rows p t x) where
    pub keep_refused : Moved rows p (Keep t.stamp t.level) (Err x.refusal) p
    keep_refused = rw stale.refusal (refused rows p _ _ (keep_16 _ _ t.stamp t.level stale.not_newest))

    pub undo_refused : Moved rows p (Undo t.stamp t.level) (Err x.refusal) p
    undo_refused = rw stale.refusal (refused rows p _ _ (undo_16 _ _ t.stamp t.level stale.not_newest))

  -- the token is the newest level's, `set` is what was taken out while that level was the newest, and `below` has the other levels' sets
  module _ (newest : Newest (state_of rows p) t.stamp t.level) (set : BitStore) (below : List BitStore) (levels : p.levels.items ≡ below ++ set ∷ []) where
    -- the table at the newest mark
    abbrev A : Rows
    A = union (rows p.store) (bit_rows set)

    marks_are : at_marks (rows p.store) (reverse p.levels.items) ≡ A ∷ at_marks A (reverse below)
    marks_are = ap (at_marks (rows p.store)) (ap reverse levels ∙ newest_last below set)

    -- the set was joined to the next level's
    pub kept :
        (q : Planner S) → q.collection ≡ p.collection → q.store ≡ p.store → q.ceiling ≡ p.ceiling → q.stamp ≡ p.stamp →
        at_marks (rows p.store) (reverse q.levels.items) ≡ at_marks A (reverse below) → Moved rows p (Keep t.stamp t.level) (Ok Done) q
    kept q collection store ceiling stamp joined =
        let table : rows q.store ≡ rows p.store = ap rows store in
        goes_on rows p q _ _ collection (takes
        (keep_free (setting_of p) (state_of rows p) t.stamp t.level newest)
        (keeps A (at_marks A (reverse below)) marks_are
        (state_same table ceiling (ap (λ (T : Rows). at_marks T (reverse q.levels.items)) table ∙ joined) stamp)))

    -- the set was put back
    pub undone :
        (q : Planner S) → q.collection ≡ p.collection → rows q.store ≡ A → q.ceiling ≡ p.ceiling → q.stamp ≡ p.stamp → q.levels.items ≡ below →
        Moved rows p (Undo t.stamp t.level) (Ok Done) q
    undone q collection table ceiling stamp rest =
        goes_on rows p q _ _ collection (takes
        (undo_free (setting_of p) (state_of rows p) t.stamp t.level newest)
        (undoes A (at_marks A (reverse below)) marks_are
        (state_same table ceiling (ap (λ (T : Rows). at_marks T (reverse q.levels.items)) table ∙ ap (λ xs. at_marks A (reverse xs)) rest) stamp)))
