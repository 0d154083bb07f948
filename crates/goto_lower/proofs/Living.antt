-- Which objects live around code, and which die on the ways out of it.
use Rattle.std.proofs.Common.{◌≡◌, ℕ, zero, suc, ◌+◌, ◌-◌, Bool, true, false, List, [], ◌∷◌, ◌++◌, length, drop, Option, Some, None, refl, sym, ap, ◌∙◌, arith, append-nil, append_assoc, length-append}
use Rattle.std.specs.Prelude.{◌==◌, if◌then◌else◌}
use Rattle.std.proofs.Math.Seq.{drop-append_seam}
use Rattle.core_tree.specs.declared.functions.Variable.{Variable}
use Rattle.core_tree.specs.Trees.{Items, done, declares, initializes, initializes_structure, does, label, case_at, default_at}
use Rattle.goto_prog.specs.declared.code.Instruction.{Instruction}
use Rattle.c_temporaries.specs.Accesses.{home_in}
use Rattle.code_draft.specs.declared.places.Mark.{Mark}
use Rattle.code_draft.specs.declared.places.Mark.TheVariants as marks
use Rattle.goto_lower.specs.declared.exits.Exits.{Exits}
use Rattle.lowered_code.specs.Lowering.{Frame, Deaths, no_deaths, no_ways, leaving, with_label, within_loop, within_switch, death_code, leave_code, leave_parameters_code}
use Rattle.code_draft.specs.Drafts.{place_of, deaths_of, deaths_to}
use Rattle.goto_lower.specs.Statements.{alive_one, count_one, alive, alive_count, parameters_alive, parameter_count, function_exits, loop_exits, switch_exits, block_exits, ways_of}

-- ---- which live

pub behind_marks : (ts ms : List Mark) → drop (length (ts ++ ms) - length ms) (ts ++ ms) ≡ ms
behind_marks ts ms =
    let long : length (ts ++ ms) - length ms ≡ length ts = omega (arith, length-append ts ms) in
    ap (λ n. drop n (ts ++ ms)) long ∙ drop-append_seam ts ms

one_length : (line : ℕ) (home : Option ℕ) (ms : List Mark) → length (alive_one line home ms) ≡ count_one home + length ms
one_length line None ms = omega arith
one_length line (Some h) ms = omega arith

one_split : (line : ℕ) (home : Option ℕ) (ms : List Mark) → alive_one line home ms ≡ alive_one line home [] ++ ms
one_split line None ms = refl
one_split line (Some h) ms = refl

one_place : (line l : ℕ) (home : Option ℕ) (ms : List Mark) → place_of (alive_one line home ms) l ≡ place_of ms l
one_place line l None ms = refl
one_place line l (Some h) ms = refl

module _ (variables : List Variable) where
  pub alive_length : (items : Items) (ms : List Mark) → length (alive variables items ms) ≡ alive_count variables items + length ms
  alive_length done ms = omega arith
  alive_length (declares line v rest) ms = omega (arith, alive_length rest (alive_one line (home_in variables v) ms), one_length line (home_in variables v) ms)
  alive_length (initializes line v drawn e rest) ms = omega (arith, alive_length rest (alive_one line (home_in variables v) ms), one_length line (home_in variables v) ms)
  alive_length (initializes_structure line v drawn a rest) ms = omega (arith, alive_length rest (alive_one line (home_in variables v) ms), one_length line (home_in variables v) ms)
  alive_length (does s rest) ms = alive_length rest ms
  alive_length (label l rest) ms = alive_length rest ms
  alive_length (case_at line t bits rest) ms = alive_length rest ms
  alive_length (default_at line rest) ms = alive_length rest ms

  pub parameters_length : (line count v : ℕ) (ms : List Mark) → length (parameters_alive variables line count v ms) ≡ parameter_count variables count v + length ms
  parameters_length line zero v ms = omega arith
  parameters_length line (suc count) v ms = omega (arith, parameters_length line count (suc v) (alive_one line (home_in variables v) ms), one_length line (home_in variables v) ms)

  abbrev is_split : Items → Type 0
  is_split rest = (ms : List Mark) → alive variables rest ms ≡ alive variables rest [] ++ ms

  one_more : (rest : Items) (line : ℕ) (home : Option ℕ) (ms : List Mark) → is_split rest → alive variables rest (alive_one line home ms) ≡ alive variables rest (alive_one line home []) ++ ms
  one_more rest line home ms behind =
      behind (alive_one line home ms)
      ∙ ap (λ xs. alive variables rest [] ++ xs) (one_split line home ms)
      ∙ sym (append_assoc (alive variables rest []) (alive_one line home []) ms)
      ∙ ap (λ xs. xs ++ ms) (sym (behind (alive_one line home [])))

  alive_split : (items : Items) (ms : List Mark) → alive variables items ms ≡ alive variables items [] ++ ms
  alive_split done ms = refl
  alive_split (declares line v rest) ms = one_more rest line (home_in variables v) ms (λ xs. alive_split rest xs)
  alive_split (initializes line v drawn e rest) ms = one_more rest line (home_in variables v) ms (λ xs. alive_split rest xs)
  alive_split (initializes_structure line v drawn a rest) ms = one_more rest line (home_in variables v) ms (λ xs. alive_split rest xs)
  alive_split (does s rest) ms = alive_split rest ms
  alive_split (label l rest) ms = alive_split rest ms
  alive_split (case_at line t bits rest) ms = alive_split rest ms
  alive_split (default_at line rest) ms = alive_split rest ms

  -- those that lived before
  pub behind_alive : (items : Items) (ms : List Mark) → drop (length (alive variables items ms) - length ms) (alive variables items ms) ≡ ms
  behind_alive items ms = (λ i. drop (length (alive_split items ms i) - length ms) (alive_split items ms i)) ∙ behind_marks (alive variables items []) ms

  place_alive : (items : Items) (ms : List Mark) (l : ℕ) → place_of (alive variables items ms) l ≡ place_of ms l
  place_alive done ms l = refl
  place_alive (declares line v rest) ms l = place_alive rest (alive_one line (home_in variables v) ms) l ∙ one_place line l (home_in variables v) ms
  place_alive (initializes line v drawn e rest) ms l = place_alive rest (alive_one line (home_in variables v) ms) l ∙ one_place line l (home_in variables v) ms
  place_alive (initializes_structure line v drawn a rest) ms l = place_alive rest (alive_one line (home_in variables v) ms) l ∙ one_place line l (home_in variables v) ms
  place_alive (does s rest) ms l = place_alive rest ms l
  place_alive (label m rest) ms l = place_alive rest ms l
  place_alive (case_at line t bits rest) ms l = place_alive rest ms l
  place_alive (default_at line rest) ms l = place_alive rest ms l

  place_parameters : (line count v : ℕ) (ms : List Mark) (l : ℕ) → place_of (parameters_alive variables line count v ms) l ≡ place_of ms l
  place_parameters line zero v ms l = refl
  place_parameters line (suc count) v ms l = place_parameters line count (suc v) (alive_one line (home_in variables v) ms) l ∙ one_place line l (home_in variables v) ms

-- ---- which die

module _ (f : Frame) where
  none_dies : (ms : List Mark) (r : ℕ) → deaths_of f ms 0 r ≡ []
  none_dies ms r = refl

  past_label : (ms : List Mark) (l place k r : ℕ) → deaths_of f (marks.Label l place ∷ ms) k r ≡ deaths_of f ms k r
  past_label ms l place zero r = refl
  past_label ms l place (suc k) r = refl

  none_more : (ms : List Mark) (k r : ℕ) → deaths_of f ms (0 + k) r ≡ deaths_of f ms k r
  none_more ms k r = let same : 0 + k ≡ k = omega arith in λ i. deaths_of f ms (same i) r

  one_dies : (line : ℕ) (home : Option ℕ) (ms : List Mark) (k r : ℕ) → deaths_of f (alive_one line home ms) (count_one home + k) r ≡ death_code f line home r ++ deaths_of f ms k r
  one_dies line None ms k r = none_more ms k r
  one_dies line (Some h) ms k r = let one : 1 + k ≡ suc k = omega arith in λ i. deaths_of f (marks.Alive line h ∷ ms) (one i) r

  one_dies_to : (line : ℕ) (home : Option ℕ) (ms : List Mark) (l r : ℕ) → deaths_to f (alive_one line home ms) l r ≡ death_code f line home r ++ deaths_to f ms l r
  one_dies_to line None ms l r = refl
  one_dies_to line (Some h) ms l r = refl

  -- one dies behind others
  behind_others : (n : ℕ) (here : List Mark) (xs : List Instruction) (line : ℕ) (home : Option ℕ) (ms : List Mark) (k r : ℕ)
      → ((j : ℕ) → deaths_of f here (n + j) r ≡ xs ++ deaths_of f (alive_one line home ms) j r)
      → deaths_of f here (n + count_one home + k) r ≡ (xs ++ death_code f line home r) ++ deaths_of f ms k r
  behind_others n here xs line home ms k r others =
      let sum : n + count_one home + k ≡ n + (count_one home + k) = omega arith in
      (λ i. deaths_of f here (sum i) r)
      ∙ others (count_one home + k)
      ∙ ap (λ ys. xs ++ ys) (one_dies line home ms k r)
      ∙ sym (append_assoc xs (death_code f line home r) (deaths_of f ms k r))

  to_others : (here : List Mark) (xs : List Instruction) (line : ℕ) (home : Option ℕ) (ms : List Mark) (l r : ℕ)
      → deaths_to f here l r ≡ xs ++ deaths_to f (alive_one line home ms) l r → deaths_to f here l r ≡ (xs ++ death_code f line home r) ++ deaths_to f ms l r
  to_others here xs line home ms l r others =
      others ∙ ap (λ ys. xs ++ ys) (one_dies_to line home ms l r) ∙ sym (append_assoc xs (death_code f line home r) (deaths_to f ms l r))

  abbrev home : ℕ → Option ℕ
  home v = home_in f.variables v

  deaths_alive : (items : Items) (ms : List Mark) (k r : ℕ) → deaths_of f (alive f.variables items ms) (alive_count f.variables items + k) r ≡ leave_code f items r ++ deaths_of f ms k r
  deaths_alive done ms k r = none_more ms k r
  deaths_alive (declares line v rest) ms k r =
      behind_others (alive_count f.variables rest) (alive f.variables rest (alive_one line (home v) ms)) (leave_code f rest r) line (home v) ms k r (λ j. deaths_alive rest (alive_one line (home v) ms) j r)
  deaths_alive (initializes line v drawn e rest) ms k r =
      behind_others (alive_count f.variables rest) (alive f.variables rest (alive_one line (home v) ms)) (leave_code f rest r) line (home v) ms k r (λ j. deaths_alive rest (alive_one line (home v) ms) j r)
  deaths_alive (initializes_structure line v drawn a rest) ms k r =
      behind_others (alive_count f.variables rest) (alive f.variables rest (alive_one line (home v) ms)) (leave_code f rest r) line (home v) ms k r (λ j. deaths_alive rest (alive_one line (home v) ms) j r)
  deaths_alive (does s rest) ms k r = deaths_alive rest ms k r
  deaths_alive (label l rest) ms k r = deaths_alive rest ms k r
  deaths_alive (case_at line t bits rest) ms k r = deaths_alive rest ms k r
  deaths_alive (default_at line rest) ms k r = deaths_alive rest ms k r

  deaths_parameters : (line count v : ℕ) (ms : List Mark) (k r : ℕ)
      → deaths_of f (parameters_alive f.variables line count v ms) (parameter_count f.variables count v + k) r ≡ leave_parameters_code f line count v r ++ deaths_of f ms k r
  deaths_parameters line zero v ms k r = none_more ms k r
  deaths_parameters line (suc count) v ms k r =
      behind_others (parameter_count f.variables count (suc v)) (parameters_alive f.variables line count (suc v) (alive_one line (home v) ms)) (leave_parameters_code f line count (suc v) r) line (home v) ms k r
      (λ j. deaths_parameters line count (suc v) (alive_one line (home v) ms) j r)

  to_alive : (items : Items) (ms : List Mark) (l r : ℕ) → deaths_to f (alive f.variables items ms) l r ≡ leave_code f items r ++ deaths_to f ms l r
  to_alive done ms l r = refl
  to_alive (declares line v rest) ms l r = to_others (alive f.variables rest (alive_one line (home v) ms)) (leave_code f rest r) line (home v) ms l r (to_alive rest (alive_one line (home v) ms) l r)
  to_alive (initializes line v drawn e rest) ms l r = to_others (alive f.variables rest (alive_one line (home v) ms)) (leave_code f rest r) line (home v) ms l r (to_alive rest (alive_one line (home v) ms) l r)
  to_alive (initializes_structure line v drawn a rest) ms l r = to_others (alive f.variables rest (alive_one line (home v) ms)) (leave_code f rest r) line (home v) ms l r (to_alive rest (alive_one line (home v) ms) l r)
  to_alive (does s rest) ms l r = to_alive rest ms l r
  to_alive (label m rest) ms l r = to_alive rest ms l r
  to_alive (case_at line t bits rest) ms l r = to_alive rest ms l r
  to_alive (default_at line rest) ms l r = to_alive rest ms l r

  to_parameters : (line count v : ℕ) (ms : List Mark) (l r : ℕ) → deaths_to f (parameters_alive f.variables line count v ms) l r ≡ leave_parameters_code f line count v r ++ deaths_to f ms l r
  to_parameters line zero v ms l r = refl
  to_parameters line (suc count) v ms l r =
      to_others (parameters_alive f.variables line count (suc v) (alive_one line (home v) ms)) (leave_parameters_code f line count (suc v) r) line (home v) ms l r (to_parameters line count (suc v) (alive_one line (home v) ms) l r)

  -- no more
  pub all_die : (items : Items) (ms : List Mark) (r : ℕ) → deaths_of f (alive f.variables items ms) (alive_count f.variables items) r ≡ leave_code f items r
  all_die items ms r =
      let sum : alive_count f.variables items ≡ alive_count f.variables items + 0 = omega arith in
      (λ i. deaths_of f (alive f.variables items ms) (sum i) r) ∙ deaths_alive items ms 0 r ∙ ap (λ xs. leave_code f items r ++ xs) (none_dies ms r) ∙ append-nil (leave_code f items r)

  all_parameters : (line count : ℕ) (ms : List Mark) (r : ℕ) → deaths_of f (parameters_alive f.variables line count 0 ms) (parameter_count f.variables count 0) r ≡ leave_parameters_code f line count 0 r ++ []
  all_parameters line count ms r =
      let sum : parameter_count f.variables count 0 ≡ parameter_count f.variables count 0 + 0 = omega arith in
      (λ i. deaths_of f (parameters_alive f.variables line count 0 ms) (sum i) r) ∙ deaths_parameters line count 0 ms 0 r ∙ ap (λ xs. leave_parameters_code f line count 0 r ++ xs) (none_dies ms r)

  pub parameters_die : (line count : ℕ) (ms : List Mark) (r : ℕ) → deaths_of f (parameters_alive f.variables line count 0 ms) (parameter_count f.variables count 0) r ≡ leave_parameters_code f line count 0 r
  parameters_die line count ms r = all_parameters line count ms r ∙ append-nil (leave_parameters_code f line count 0 r)

  -- ---- ways

  pub ways_block : (x : Exits) (items : Items) (ms : List Mark) → leaving (leave_code f items) (ways_of x f ms) ≡ ways_of (block_exits x (alive_count f.variables items)) f (alive f.variables items ms)
  ways_block x items ms = λ i. record {
    break_at = x.break_at;
    break_out = λ r. sym (deaths_alive items ms x.break_deaths r) i;
    continue_at = x.continue_at;
    continue_out = λ r. sym (deaths_alive items ms x.continue_deaths r) i;
    return_out = λ r. sym (deaths_alive items ms x.return_deaths r) i;
    label_at = λ l. sym (place_alive f.variables items ms l) i;
    label_out = λ l r. sym (to_alive items ms l r) i;
  }

  pub ways_function : (line count : ℕ) → leaving (leave_parameters_code f line count 0) no_ways ≡ ways_of (function_exits (parameter_count f.variables count 0)) f (parameters_alive f.variables line count 0 [])
  ways_function line count = λ i. record {
    break_at = 2;
    break_out = λ r. sym (all_parameters line count [] r) i;
    continue_at = 2;
    continue_out = λ r. sym (all_parameters line count [] r) i;
    return_out = λ r. sym (all_parameters line count [] r) i;
    label_at = λ l. sym (place_parameters f.variables line count 0 [] l) i;
    label_out = λ l r. sym (to_parameters line count 0 [] l r) i;
  }

  either_dies : (b : Bool) (out : Deaths) (r : ℕ) → (if b then [] else out r) ≡ (if b then no_deaths else out) r
  either_dies true out r = refl
  either_dies false out r = refl

  pub ways_label : (x : Exits) (l place : ℕ) (ms : List Mark) → ways_of x f (marks.Label l place ∷ ms) ≡ with_label (ways_of x f ms) l place
  ways_label x l place ms = λ i. record {
    break_at = x.break_at;
    break_out = λ r. past_label ms l place x.break_deaths r i;
    continue_at = x.continue_at;
    continue_out = λ r. past_label ms l place x.continue_deaths r i;
    return_out = λ r. past_label ms l place x.return_deaths r i;
    label_at = λ m. if l == m then place else place_of ms m;
    label_out = λ m r. either_dies (l == m) (deaths_to f ms m) r i;
  }

  pub ways_loop : (x : Exits) (behind count : ℕ) (ms : List Mark) → ways_of (loop_exits x behind count) f ms ≡ within_loop (ways_of x f ms) behind (behind + 1 + count)
  ways_loop x behind count ms = refl

  pub ways_switch : (x : Exits) (behind : ℕ) (ms : List Mark) → ways_of (switch_exits x behind) f ms ≡ within_switch (ways_of x f ms) behind
  ways_switch x behind ms = refl
