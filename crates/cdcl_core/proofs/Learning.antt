-- A search that has learned a clause.
use Rattle.std.proofs.Common.{◌≡◌, ℕ, suc, ◌-◌, ◌+◌, ◌*◌, ◌<◌, ◌≤◌, false, List, [], ◌∷◌, ◌++◌, length, get_or, take, sym, ap, ◌∙◌, subst, arith}
use Rattle.std.specs.Prelude.{Contains, if◌then◌else◌}
use Rattle.std.proofs.lemmas.List.{length-append, length-take-le, get_or-take, get_or_default}
use Rattle.sat_form.specs.Satisfaction.{Literal, Form, IsWithin}
use Rattle.sat_form.specs.declared.logs.Entry.TheVariants.{Added}
use Rattle.cdcl_core.specs.declared.trail.Step.{Step}
use Rattle.cdcl_core.specs.Steps.{oldest, decision_places}
use Rattle.cdcl_core.specs.Learning.{IsClear, IsLearned}
use Rattle.cdcl_core.specs.Jumps.{IsFirstFrom}
use Rattle.cdcl_core.specs.Watched.{AreOpen, AreWatched, IsHeld}
use Rattle.cdcl_core.proofs.Courses.{oldest-all, oldest-more}
use Rattle.cdcl_core.proofs.Watching.{place-decided, oldest-oldest}
use Rattle.cdcl_core.proofs.Jumping.{IsJump, jump_quiet}
use Rattle.cdcl_core.proofs.Settling.{places-cut, length-oldest_all}
use Rattle.cdcl_core.proofs.Logging.{IsLogged-added}
use Rattle.cdcl_core.specs.declared.search.Search.{Search}
use Rattle.cdcl_core.specs.Answers.{IsLogged, IsReady, IsWatching, left}

-- what is known where a clause was learned, and the steps from the decision of this index on were taken back
pub record HasLearned (old new : Search) (c : List Literal) (hints : List ℕ) (index : ℕ) : Type 0 where
  pub variables : new.trail.variables ≡ old.trail.variables
  pub clauses : new.clauses ≡ old.clauses ++ c ∷ []
  pub log : new.log ≡ old.log ++ Added c hints ∷ []
  pub analysis : new.analysis ≡ old.analysis
  pub decisions : new.decisions.items ≡ take index old.decisions.items
  pub places : decision_places new.trail.steps ≡ take index old.decisions.items
  pub held : IsHeld new.clauses new.trail new.watches

-- the decisions that are left where the steps from one of them on are taken back
pub places_left :
    (steps : List Step) (ns : List ℕ) (index : ℕ) → ns ≡ decision_places steps → index < length ns → decision_places (oldest (get_or ns index 0) steps) ≡ take index ns
places_left steps ns index are within =
    ap (λ (x : List ℕ). decision_places (oldest (get_or x index 0) steps)) are
    ∙ places-cut steps index (subst (λ (x : List ℕ). index < length x) are within)
    ∙ ap (take index) (sym are)

-- a step that follows is no decision
pub places_following :
    (s : Step) (older : List Step) → s.decision ≡ false → decision_places (s ∷ older) ≡ decision_places older
places_following s older follows = ap (λ b. if b then decision_places older ++ length older ∷ [] else decision_places older) follows

pub IsReady-learned :
    (form : Form) (n : ℕ) (old new : Search) (c : List Literal) (l : Literal) (hints : List ℕ) (index : ℕ) → HasLearned old new c hints index →
    IsLearned old.trail.variables old.clauses old.trail.steps c l hints → length old.log < n → IsReady form n old → IsReady form n new
IsReady-learned form n old new c l hints index has learned room ready =
    let logged : IsLogged form n (old.clauses ++ c ∷ []) (old.log ++ Added c hints ∷ []) =
    IsLogged-added form n old.clauses old.log c hints ready.logged
    (learned.unit form.clauses old.log (sym ready.logged.numbered) ready.logged.live) (subst (λ k. IsWithin k c) ready.variables learned.within) room in
    record {
      kept = record {
        held = has.held;
        clear = subst (λ k. IsClear k new.analysis) (sym has.variables) (subst (IsClear old.trail.variables) (sym has.analysis) ready.kept.clear);
        places = has.decisions ∙ sym has.places;
      };
      variables = has.variables ∙ ready.variables;
      logged = subst (λ x. IsLogged form n x new.log) (sym has.clauses) (subst (IsLogged form n (old.clauses ++ c ∷ [])) (sym has.log) logged);
    }

one_unit : (a b v x y : ℕ) → a ≡ suc b → x ≤ v → b * suc v + x < a * suc v + y
one_unit a b v x y more least = rw more (omega (arith, least))

one_fewer : (n k m : ℕ) → k < n → m ≡ k + 1 → n - k ≡ suc (n - m)
one_fewer n k m room more = omega (arith, room, more)

pub left-learned :
    (n : ℕ) (old new : Search) (c : List Literal) (hints : List ℕ) (index : ℕ) → HasLearned old new c hints index → length old.log < n → left n new < left n old
left-learned n old new c hints index has room =
    let longer : length new.log ≡ length old.log + 1 = ap length has.log ∙ length-append old.log (Added c hints ∷ []) in
    let fewer : n - length old.log ≡ suc (n - length new.log) = one_fewer n (length old.log) (length new.log) room longer in
    let less : (n - length new.log) * suc new.trail.variables + (new.trail.variables - length new.trail.steps)
    < (n - length old.log) * suc new.trail.variables + (old.trail.variables - length old.trail.steps) =
    one_unit (n - length old.log) (n - length new.log) new.trail.variables (new.trail.variables - length new.trail.steps) (old.trail.variables - length old.trail.steps) fewer (omega arith) in
    subst (λ v. left n new < (n - length old.log) * suc v + (old.trail.variables - length old.trail.steps)) has.variables less

-- what is propagated where the steps from a decision on were taken back, and one more follows
pub IsWatching-asserted :
    (new : Search) (count : ℕ) (s : Step) (steps : List Step) → Contains (decision_places steps) count → new.trail.steps ≡ s ∷ oldest count steps → new.propagated ≡ count →
    AreWatched (oldest count steps) new.trail.steps new.clauses new.watches.pairs.items → IsWatching new
IsWatching-asserted new count s steps stands are propagated watched =
    let below : count < length steps = place-decided steps count stands in
    let exact : length (oldest count steps) ≡ count = length-oldest_all count steps (omega (arith, below)) in
    let longer : length new.trail.steps ≡ suc (length (oldest count steps)) = ap length are in
    let same : oldest new.propagated new.trail.steps ≡ oldest count steps =
    ap (λ k. oldest k new.trail.steps) propagated
    ∙ ap (oldest count) are
    ∙ oldest-more count s (oldest count steps) (omega (arith, exact))
    ∙ oldest-all count (oldest count steps) (omega (arith, exact)) in
    record {
      most = omega (arith, propagated, longer, exact);
      watched = subst (λ (x : List Step). AreWatched x new.trail.steps new.clauses new.watches.pairs.items) (sym same) watched;
    }

-- what is propagated where the steps from a decision on were taken back
pub IsWatching-cut :
    (new : Search) (count : ℕ) (steps : List Step) → Contains (decision_places steps) count → new.trail.steps ≡ oldest count steps → new.propagated ≡ count →
    AreWatched new.trail.steps new.trail.steps new.clauses new.watches.pairs.items → IsWatching new
IsWatching-cut new count steps stands are propagated watched =
    let below : count < length steps = place-decided steps count stands in
    let exact : length new.trail.steps ≡ count = ap length are ∙ length-oldest_all count steps (omega (arith, below)) in
    let same : oldest new.propagated new.trail.steps ≡ new.trail.steps = oldest-all new.propagated new.trail.steps (omega (arith, exact, propagated)) in
    record {
      most = omega (arith, propagated, exact);
      watched = subst (λ (x : List Step). AreWatched x new.trail.steps new.clauses new.watches.pairs.items) (sym same) watched;
    }

-- the first decision
pub first_stands : (steps : List Step) (ns : List ℕ) → ns ≡ decision_places steps → 0 < length ns → Contains (decision_places steps) (get_or ns 0 0)
first_stands steps ns are some = subst (λ (x : List ℕ). Contains x (get_or ns 0 0)) are (0, some, get_or_default ns 0 (get_or ns 0 0) 0 some)

-- before the first decision there is none
pub none_before : (steps : List Step) (ns : List ℕ) (d : ℕ) → ns ≡ decision_places steps → 0 < length ns → Contains (decision_places (oldest (get_or ns 0 0) steps)) d → ⊥
none_before steps ns d are some at =
    let none : Contains (take 0 ns) d = subst (λ (x : List ℕ). Contains x d) (places_left steps ns 0 are some) at in
    omega (arith, none.1, length-take-le 0 ns (omega arith))

-- before the first decision the two watched literals are open, where the clause leaves one only later
pub open_first : (n : ℕ) (cs : List (List Literal)) (steps : List Step) (places : List ℕ) (c : List Literal) (l : Literal) (hints : List ℕ) (beside : Literal) (kept index start : ℕ) →
    IsJump n cs steps places c l hints beside kept → IsFirstFrom places kept index → 0 < index → AreOpen (oldest (get_or places 0 0) steps) c (record { first = l; second = beside; start = start })
open_first n cs steps places c l hints beside kept index start j first later =
    let d : ℕ = get_or places 0 0 in
    let count : ℕ = get_or places index 0 in
    let room : index ≤ length places = omega (arith, first.within) in
    let long : length (take index places) ≡ index = length-take-le index places room in
    let read : get_or (take index places) 0 d ≡ d = get_or_default (take index places) 0 d 0 (omega (arith, long, later)) ∙ get_or-take index places 0 0 later in
    let front : Contains (take index places) d = (0, omega (arith, long, later), read) in
    let stands : Contains (decision_places (oldest count steps)) d = subst (λ (x : List ℕ). Contains x d) (sym (places_left steps places index j.places_are first.within)) front in
    let less : d < kept = first.before 0 later in
    subst (λ (x : List Step). AreOpen x c (record { first = l; second = beside; start = start })) (oldest-oldest d count steps (omega (arith, less, first.from)))
    (jump_quiet n cs steps places c l hints beside kept index start j first d stands)
