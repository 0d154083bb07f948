-- The stages that a file goes through, one after another.
use Rattle.std.proofs.Common.{◌≡◌, ◌≤◌, ◌⊎◌, inl, inr, ℕ, List, length, Option, Some, None, Result, Ok, Err, sym, refl, ap, ◌∙◌, subst, arith}
use Rattle.c_token.specs.declared.token.Token.{Token}
use Rattle.c_lexer.specs.declared.fault.LexError.{LexError}
use Rattle.c_lexer.specs.declared.fault.LexError.TheVariants as errors
use Rattle.c_lexer.specs.Cutting.{IsCutInto, bytes_of, last_line_of}
use Rattle.c_pre.specs.declared.error.PreError.{PreError}
use Rattle.c_pre.specs.declared.error.PreError.TheVariants as directives
use Rattle.c_pre.specs.Calls.{IsExpansion}
use Rattle.c_tree.specs.Statements.{Externals}
use Rattle.c_tree.specs.Files.{IsFile}
use Rattle.c_parse_expr.specs.Standing.{line_at}
use Rattle.c_parse_statements.specs.Standing.{EndsAt}
use Rattle.core_tree.specs.Trees.{TypedFile}
use Rattle.core_tree.specs.Ranges.{Limits}
use Rattle.core_tree.specs.declared.refusal.Limit.{Limit}
use Rattle.core_tree.specs.declared.refusal.Limit.TheVariants.{Tokens}
use Rattle.c_scope.specs.Faults.{Fault}
use Rattle.c_elab_decl.specs.Files.{elaborated}
use Rattle.c_profile.specs.Rules.{Breach, first_breach}
use Rattle.goto_unwind.specs.Counts.{passed}
use Rattle.properties.specs.Properties.{properties_of}
use Rattle.cbmc_top.specs.Programs.{text_behind, IsTreeOf, IsFileOf, IsAccepted, IsCheckable}
use Rattle.cbmc_top.specs.Command.{Purpose, checking, listing}
use Rattle.run_search.specs.Answers.{Answer, usage, read_fault, limited, refused, successful, failed, used_up, listed}
use Rattle.report.specs.Failing.{turns_of}
use Rattle.cbmc_top.specs.Answers.{refusal, IsFailure, AfterCounts, AtCounts, AfterProfile, AtProfile, typing_cause, AtTyping, HasNoTree, HasTree, AtTree, expansion_answer, AtExpansion, IsExpandedFrom, lexing_answer, AtLexing, Decides, IsOfSearch}
use Rattle.run_search.specs.Executions.{IsVerified}
use Rattle.report.specs.Report.{Failure}
use Rattle.run_search.specs.declared.used.Used.{Used}
use Rattle.run_search.specs.Stops.{StopsWith, IsPassed}
use Rattle.cbmc_top.specs.Stops.{IsUncut, IsUnexpanded, HasNoTyping, IsOutside, IsRefused}
use Rattle.run_search.specs.declared.stop.Stop.{Stop}
use Rattle.run_search.specs.declared.stop.Stop.TheVariants as stops

some_is : {A : Type 0} {x y : A} → Some x ≡ Some y → x ≡ y
some_is e = cc

pub stop_map : (s : Stop) (P Q : Answer → Type 0) → ((a : Answer) → P a → Q a) → StopsWith s P → StopsWith s Q
stop_map (stops.Refused r) P Q f x = f (refused r) x
stop_map (stops.Limited l) P Q f x = f (limited l) x
stop_map stops.Memory P Q f x = tt

-- ---- from a stage to the whole

pub uncut_decides : (purpose : Purpose) (file : List ℕ) (a : Answer) → length file ≤ 1048576 → IsUncut file a → Decides purpose file a
uncut_decides purpose file a short x = inr (record { short = short; found = Err x.0; cut = x.1; on = x.2 })

from_expansion : (purpose : Purpose) (file : List ℕ) (cutting : List Token) (r : Result (List Token) PreError) (a : Answer) → length file ≤ 1048576 → IsCutInto file (Ok cutting) → IsExpansion (bytes_of file) cutting r
    → AtExpansion purpose file r a → Decides purpose file a
from_expansion purpose file cutting r a short cut expanded on =
    inr (record { short = short; found = Ok cutting; cut = cut; on = record { found = r; expanded = expanded; on = on } })

pub unexpanded_decides : (purpose : Purpose) (file : List ℕ) (cutting : List Token) (a : Answer) → length file ≤ 1048576 → IsCutInto file (Ok cutting) → IsUnexpanded (bytes_of file) cutting a → Decides purpose file a
unexpanded_decides purpose file cutting a short cut x = from_expansion purpose file cutting (Err x.0) a short cut x.1 x.2

pub untreed_decides : (purpose : Purpose) (file : List ℕ) (cutting tokens : List Token) (a : Answer) → length file ≤ 1048576 → IsCutInto file (Ok cutting) → IsExpansion (bytes_of file) cutting (Ok tokens)
    → HasNoTree (text_behind file) (last_line_of file) tokens a → Decides purpose file a
untreed_decides purpose file cutting tokens a short cut expanded x = from_expansion purpose file cutting (Ok tokens) a short cut expanded (inl x)

from_typing : (purpose : Purpose) (file : List ℕ) (tree : Externals) (r : Result TypedFile Fault) (a : Answer) → length file ≤ 1048576 → IsTreeOf file tree → elaborated tree ≡ r → AtTyping purpose tree r a → Decides purpose file a
from_typing purpose file tree r a short t is on =
    from_expansion purpose file t.cutting (Ok t.tokens) a short t.cut t.expanded (inr (record { tree = tree; is_tree = t.is_tree; on = subst (λ x. AtTyping purpose tree x a) (sym is) on }))

from_profile : (purpose : Purpose) (tree : Externals) (core : TypedFile) (o : Option Breach) (a : Answer) → first_breach core ≡ o → AtProfile purpose tree core o a → AtTyping purpose tree (Ok core) a
from_profile purpose tree core o a is on = subst (λ x. AtProfile purpose tree core x a) (sym is) on

pub refused_decides : (purpose : Purpose) (file : List ℕ) (tree : Externals) (a : Answer) → length file ≤ 1048576 → IsTreeOf file tree → IsRefused tree a → Decides purpose file a
refused_decides purpose file tree a short t (inl x) = from_typing purpose file tree (Err x.0) a short t x.1 x.2
refused_decides purpose file tree a short t (inr x) = from_typing purpose file tree (Ok x.0) a short t x.1 (from_profile purpose tree x.0 (Some x.2.0) a x.2.1 x.2.2)

pub accepted_after : (purpose : Purpose) (file : List ℕ) (core : TypedFile) (a : Answer) → (x : IsAccepted file core) → AfterProfile purpose x.program.tree core a → Decides purpose file a
accepted_after purpose file core a x on =
    let p = x.program in from_typing purpose file p.tree (Ok core) a x.short p.is_tree p.typed (from_profile purpose p.tree core None a p.in_profile on)

pub accepted_decides : (limits : Limits) (budget : ℕ) (file : List ℕ) (core : TypedFile) (o : Option Limit) (a : Answer) → IsAccepted file core → passed core limits ≡ o → AtCounts limits budget core o a → Decides (checking limits budget) file a
accepted_decides limits budget file core o a x is on = accepted_after (checking limits budget) file core a x (subst (λ y. AtCounts limits budget core y a) (sym is) on)

pub accepted_passed : (limits : Limits) (budget : ℕ) (file : List ℕ) (core : TypedFile) (a : Answer) → IsAccepted file core → IsPassed limits core a → Decides (checking limits budget) file a
accepted_passed limits budget file core a x p = accepted_decides limits budget file core (Some p.0) a x p.1 p.2

-- ---- from an answer behind the profile to the program

-- no stop of a stage before that
abbrev pub IsBehind : Answer → Type 0
IsBehind usage = ⊥
IsBehind read_fault = ⊥
IsBehind (limited limit) = ⊥
IsBehind (refused cause) = ⊥
IsBehind (successful used) = Unit {0}
IsBehind (failed f) = Unit {0}
IsBehind (used_up used) = Unit {0}
IsBehind (listed properties) = Unit {0}

pub search_behind : (a : Answer) → IsOfSearch a → IsBehind a
search_behind usage x = x
search_behind read_fault x = x
search_behind (limited l) x = x
search_behind (refused c) x = x
search_behind (successful used) x = tt
search_behind (failed f) x = tt
search_behind (used_up used) x = tt
search_behind (listed properties) x = absurd x

not_behind : (a b : Answer) → (IsBehind b → ⊥) → a ≡ b → IsBehind a → ⊥
not_behind a b none e behind = none (subst IsBehind e behind)

lexing_not_behind : (e : LexError) (a : Answer) → lexing_answer e ≡ Some a → IsBehind a → ⊥
lexing_not_behind (errors.BadByte line) a e behind = subst IsBehind (sym (some_is e)) behind
lexing_not_behind (errors.Unclosed line) a e behind = subst IsBehind (sym (some_is e)) behind
lexing_not_behind (errors.BadConstant line) a e behind = subst IsBehind (sym (some_is e)) behind
lexing_not_behind (errors.Foreign line) a e behind = subst IsBehind (sym (some_is e)) behind
lexing_not_behind errors.Memory a e behind = cc

expansion_not_behind : (e : PreError) (a : Answer) → expansion_answer e ≡ Some a → IsBehind a → ⊥
expansion_not_behind (directives.Directive line) a e behind = subst IsBehind (sym (some_is e)) behind
expansion_not_behind (directives.Include line) a e behind = subst IsBehind (sym (some_is e)) behind
expansion_not_behind (directives.Conditional line) a e behind = subst IsBehind (sym (some_is e)) behind
expansion_not_behind directives.TooMany a e behind = subst IsBehind (sym (some_is e)) behind
expansion_not_behind directives.Memory a e behind = cc

-- the program of the file, and what comes behind the profile
pub record Reached (purpose : Purpose) (file : List ℕ) (answer : Answer) : Type 0 where
  pub core : TypedFile
  pub accepted : IsAccepted file core
  pub after : AfterProfile purpose accepted.program.tree core answer

reached_profile : (purpose : Purpose) (file : List ℕ) (tree : Externals) (core : TypedFile) (o : Option Breach) (a : Answer) → IsBehind a → length file ≤ 1048576 → IsTreeOf file tree → elaborated tree ≡ Ok core → first_breach core ≡ o
    → AtProfile purpose tree core o a → Reached purpose file a
reached_profile purpose file tree core None a behind short t typed is on =
    record { core = core; accepted = record { short = short; program = record { tree = tree; is_tree = t; typed = typed; in_profile = is } }; after = on }
reached_profile purpose file tree core (Some b) a behind short t typed is on = absurd (not_behind a (refusal 12 b.line (Some b.rule)) (λ x. x) on behind)

reached_typing : (purpose : Purpose) (file : List ℕ) (tree : Externals) (r : Result TypedFile Fault) (a : Answer) → IsBehind a → length file ≤ 1048576 → IsTreeOf file tree → elaborated tree ≡ r → AtTyping purpose tree r a → Reached purpose file a
reached_typing purpose file tree (Ok core) a behind short t is on = reached_profile purpose file tree core (first_breach core) a behind short t is refl on
reached_typing purpose file tree (Err f) a behind short t is on = absurd (not_behind a (refused (typing_cause f)) (λ x. x) on behind)

reached_expansion : (purpose : Purpose) (file : List ℕ) (cutting : List Token) (r : Result (List Token) PreError) (a : Answer) → IsBehind a → length file ≤ 1048576 → IsCutInto file (Ok cutting) → IsExpansion (bytes_of file) cutting r
    → AtExpansion purpose file r a → Reached purpose file a
reached_expansion purpose file cutting (Err e) a behind short cut expanded on = absurd (expansion_not_behind e a on behind)
reached_expansion purpose file cutting (Ok tokens) a behind short cut expanded (inl n) = absurd (not_behind a (refusal 10 (line_at (last_line_of file) n.rest) None) (λ x. x) n.on behind)
reached_expansion purpose file cutting (Ok tokens) a behind short cut expanded (inr t) =
    reached_typing purpose file t.tree (elaborated t.tree) a behind short (record { cutting = cutting; cut = cut; tokens = tokens; expanded = expanded; is_tree = t.is_tree }) refl t.on

reached_lexing : (purpose : Purpose) (file : List ℕ) (found : Result (List Token) LexError) (a : Answer) → IsBehind a → length file ≤ 1048576 → IsCutInto file found → AtLexing purpose file found a → Reached purpose file a
reached_lexing purpose file (Ok cutting) a behind short cut on = reached_expansion purpose file cutting on.found a behind short cut on.expanded on.on
reached_lexing purpose file (Err e) a behind short cut on = absurd (lexing_not_behind e a on behind)

pub reached : (purpose : Purpose) (file : List ℕ) (a : Answer) → IsBehind a → Decides purpose file a → Reached purpose file a
reached purpose file a behind (inl long) = absurd (not_behind a (limited _) (λ x. x) long.1 behind)
reached purpose file a behind (inr x) = reached_lexing purpose file x.found a behind x.short x.cut x.on

-- what an answer of the search says of the program of the file
pub record Told (limits : Limits) (budget : ℕ) (file : List ℕ) (answer : Answer) : Type 0 where
  pub core : TypedFile
  pub program : IsFileOf file core
  pub after : AfterCounts limits budget core answer

told_counts : (limits : Limits) (budget : ℕ) (file : List ℕ) (core : TypedFile) (o : Option Limit) (a : Answer) → IsOfSearch a → IsFileOf file core → AtCounts limits budget core o a → Told limits budget file a
told_counts limits budget file core None a of_search p on = record { core = core; program = p; after = on }
told_counts limits budget file core (Some l) a of_search p on = absurd (not_behind a (limited l) (λ x. x) on (search_behind a of_search))

pub told : (limits : Limits) (budget : ℕ) (file : List ℕ) (a : Answer) → IsOfSearch a → Decides (checking limits budget) file a → Told limits budget file a
told limits budget file a of_search d =
    let r = reached (checking limits budget) file a (search_behind a of_search) d in told_counts limits budget file r.core (passed r.core limits) a of_search r.accepted.program r.after

-- ---- one answer

abbrev pub Same : Answer → Answer → Type 0
Same a b = (a ≡ b) ⊎ (IsOfSearch a × IsOfSearch b)

pub search_of : (limits : Limits) (budget : ℕ) (core : TypedFile) (a : Answer) → AfterCounts limits budget core a → IsOfSearch a
search_of limits budget core usage x = x
search_of limits budget core read_fault x = x
search_of limits budget core (limited l) x = x
search_of limits budget core (refused c) x = x
search_of limits budget core (successful used) x = tt
search_of limits budget core (failed f) x = tt
search_of limits budget core (used_up used) x = tt
search_of limits budget core (listed properties) x = x

both_counts : (limits : Limits) (budget : ℕ) (core : TypedFile) (o : Option Limit) (a b : Answer) → AtCounts limits budget core o a → AtCounts limits budget core o b → Same a b
both_counts limits budget core None a b x y = inr (search_of limits budget core a x, search_of limits budget core b y)
both_counts limits budget core (Some l) a b x y = inl (x ∙ sym y)

both_after : (purpose : Purpose) (tree : Externals) (core : TypedFile) (a b : Answer) → AfterProfile purpose tree core a → AfterProfile purpose tree core b → Same a b
both_after (checking limits budget) tree core a b x y = both_counts limits budget core (passed core limits) a b x y
both_after listing tree core a b x y = inl (x ∙ sym y)

both_profile : (purpose : Purpose) (tree : Externals) (core : TypedFile) (o : Option Breach) (a b : Answer) → AtProfile purpose tree core o a → AtProfile purpose tree core o b → Same a b
both_profile purpose tree core None a b x y = both_after purpose tree core a b x y
both_profile purpose tree core (Some l) a b x y = inl (x ∙ sym y)

both_typing : (purpose : Purpose) (tree : Externals) (r : Result TypedFile Fault) (a b : Answer) → AtTyping purpose tree r a → AtTyping purpose tree r b → Same a b
both_typing purpose tree (Ok core) a b x y = both_profile purpose tree core (first_breach core) a b x y
both_typing purpose tree (Err f) a b x y = inl (x ∙ sym y)

safe_breaks : (limits : Limits) (core : TypedFile) (f : Failure) → IsVerified limits core → IsFailure limits core f → ⊥
safe_breaks limits core f v x = let fine = v.within f.inputs (turns_of f.rows) in let broken = x.replays.breaks in cc

ok_is : {A B : Type 0} {a b : A} (x : Result A B) → x ≡ Ok a → x ≡ Ok b → a ≡ b
ok_is x p q = cc

module _ (one_cut : (file : List ℕ) (a b : Result (List Token) LexError) → IsCutInto file a → IsCutInto file b → a ≡ b)
    (one_expansion : (bytes : List ℕ) (tokens : List Token) (a b : Result (List Token) PreError) → IsExpansion bytes tokens a → IsExpansion bytes tokens b → a ≡ b)
    (one_tree : (bytes : List ℕ) (tokens : List Token) (a b : Externals) → IsFile bytes tokens a → IsFile bytes tokens b → a ≡ b) where
  -- a cutting that expands into tokens, and any expansion of the file's cutting
  same_expansion : (file : List ℕ) (tree : Externals) (t : IsTreeOf file tree) (cutting : List Token) (r : Result (List Token) PreError) → IsCutInto file (Ok cutting) → IsExpansion (bytes_of file) cutting r → r ≡ Ok t.tokens
  same_expansion file tree t cutting r cut expanded =
      let same : cutting ≡ t.cutting = ok_is (Ok cutting) refl (one_cut file (Ok cutting) (Ok t.cutting) cut t.cut) in
      one_expansion (bytes_of file) t.cutting r (Ok t.tokens) (subst (λ c. IsExpansion (bytes_of file) c r) same expanded) t.expanded

  one_tree_of : (file : List ℕ) (a b : Externals) → IsTreeOf file a → IsTreeOf file b → a ≡ b
  one_tree_of file a b p q =
      let tokens : p.tokens ≡ q.tokens = ok_is (Ok p.tokens) refl (same_expansion file b q p.cutting (Ok p.tokens) p.cut p.expanded) in
      one_tree (text_behind file) q.tokens a b (subst (λ ts. IsFile (text_behind file) ts a) tokens p.is_tree) q.is_tree

  pub one_program : (file : List ℕ) (some others : TypedFile) → IsFileOf file some → IsFileOf file others → some ≡ others
  one_program file some others p q = ok_is (elaborated p.tree) p.typed (ap elaborated (one_tree_of file p.tree q.tree p.is_tree q.is_tree) ∙ q.typed)

  pub one_verdict : (limits : Limits) (budget other : ℕ) (file : List ℕ) (used : Used) (f : Failure) → Decides (checking limits budget) file (successful used) → Decides (checking limits other) file (failed f) → ⊥
  one_verdict limits budget other file used f x y =
      let p = told limits budget file (successful used) tt x in
      let q = told limits other file (failed f) tt y in
      safe_breaks limits p.core f p.after.0 (subst (λ fs. IsFailure limits fs f) (one_program file q.core p.core q.program p.program) q.after)

  after_of_tree : (purpose : Purpose) (file : List ℕ) (core : TypedFile) (p : IsFileOf file core) (a : Answer) → AtTree purpose file p.is_tree.tokens a → AfterProfile purpose p.tree core a
  after_of_tree purpose file core p a (inl n) = absurd (n.none p.tree p.is_tree.is_tree)
  after_of_tree purpose file core p a (inr t) =
      let tree : t.tree ≡ p.tree = one_tree (text_behind file) p.is_tree.tokens t.tree p.tree t.is_tree p.is_tree.is_tree in
      let typing : AtTyping purpose p.tree (Ok core) a = subst (λ r. AtTyping purpose p.tree r a) p.typed (subst (λ u. AtTyping purpose u (elaborated u) a) tree t.on) in
      subst (λ o. AtProfile purpose p.tree core o a) p.in_profile typing

  after_of_lexing : (purpose : Purpose) (file : List ℕ) (core : TypedFile) (p : IsFileOf file core) (a : Answer) (found : Result (List Token) LexError) → IsCutInto file found → AtLexing purpose file found a → AfterProfile purpose p.tree core a
  after_of_lexing purpose file core p a (Err e) cut on = let same = one_cut file (Err e) (Ok p.is_tree.cutting) cut p.is_tree.cut in cc
  after_of_lexing purpose file core p a (Ok cutting) cut on =
      after_of_tree purpose file core p a (subst (λ r. AtExpansion purpose file r a) (same_expansion file p.tree p.is_tree cutting on.found cut on.expanded) on.on)

  pub after_of : (purpose : Purpose) (file : List ℕ) (core : TypedFile) (a : Answer) → (x : IsAccepted file core) → Decides purpose file a → AfterProfile purpose x.program.tree core a
  after_of purpose file core a x (inl long) = let short = x.short in absurd (omega (arith, long.0, short))
  after_of purpose file core a x (inr r) = after_of_lexing purpose file core x.program a r.found r.cut r.on

  pub runs_answer : (limits : Limits) (budget : ℕ) (file : List ℕ) (core : TypedFile) (a : Answer) → IsCheckable limits file core → Decides (checking limits budget) file a → AfterCounts limits budget core a
  runs_answer limits budget file core a x d = subst (λ o. AtCounts limits budget core o a) x.counts (after_of (checking limits budget) file core a x.accepted d)

  pub listing_answers : (file : List ℕ) (core : TypedFile) (x : IsAccepted file core) (a : Answer) → Decides listing file a → a ≡ listed (properties_of x.program.tree)
  listing_answers file core x a d = after_of listing file core a x d

  module _ (one_rest : (bytes : List ℕ) (tokens a b : List Token) → EndsAt bytes tokens a → EndsAt bytes tokens b → a ≡ b) where
    both_tree : (purpose : Purpose) (file : List ℕ) (tokens : List Token) (a b : Answer) → AtTree purpose file tokens a → AtTree purpose file tokens b → Same a b
    both_tree purpose file tokens a b (inl x) (inl y) = inl (x.on ∙ ap (λ rest. refusal 10 (line_at (last_line_of file) rest) None) (one_rest (text_behind file) tokens x.rest y.rest x.ends y.ends) ∙ sym y.on)
    both_tree purpose file tokens a b (inl x) (inr y) = absurd (x.none y.tree y.is_tree)
    both_tree purpose file tokens a b (inr x) (inl y) = absurd (y.none x.tree x.is_tree)
    both_tree purpose file tokens a b (inr x) (inr y) =
        both_typing purpose y.tree (elaborated y.tree) a b (subst (λ t. AtTyping purpose t (elaborated t) a) (one_tree (text_behind file) tokens x.tree y.tree x.is_tree y.is_tree) x.on) y.on

    both_expansion : (purpose : Purpose) (file : List ℕ) (r : Result (List Token) PreError) (a b : Answer) → AtExpansion purpose file r a → AtExpansion purpose file r b → Same a b
    both_expansion purpose file (Ok tokens) a b x y = both_tree purpose file tokens a b x y
    both_expansion purpose file (Err e) a b x y = inl (some_is (sym x ∙ y))

    both_lexing : (purpose : Purpose) (file : List ℕ) (found : Result (List Token) LexError) (a b : Answer) → AtLexing purpose file found a → AtLexing purpose file found b → Same a b
    both_lexing purpose file (Ok cutting) a b x y =
        both_expansion purpose file y.found a b (subst (λ r. AtExpansion purpose file r a) (one_expansion (bytes_of file) cutting x.found y.found x.expanded y.expanded) x.on) y.on
    both_lexing purpose file (Err e) a b x y = inl (some_is (sym x ∙ y))

    pub one_answer : (purpose : Purpose) (file : List ℕ) (a b : Answer) → Decides purpose file a → Decides purpose file b → Same a b
    one_answer purpose file a b (inl x) (inl y) = inl (x.1 ∙ sym y.1)
    one_answer purpose file a b (inl x) (inr y) = let short = y.short in absurd (omega (arith, x.0, short))
    one_answer purpose file a b (inr x) (inl y) = let short = x.short in absurd (omega (arith, y.0, short))
    one_answer purpose file a b (inr x) (inr y) =
        both_lexing purpose file y.found a b (subst (λ f. AtLexing purpose file f a) (one_cut file x.found y.found x.cut y.cut) x.on) y.on
