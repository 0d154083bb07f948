-- One line of those that the code goes over.
use Rattle.std.proofs.Common.{◌≡◌, ◌≤◌, ◌<◌, ◌+◌, ℕ, List, length, get_or, map, Bool, Some, subst}
use Rattle.c_token.specs.declared.token.Token.{Token}
use Rattle.c_pre.specs.declared.lines.Line.{Line}
use Rattle.c_pre.specs.declared.error.PreError.{PreError}
use Rattle.c_pre.specs.Lines.{directive_of, arguments, number_of}
use Rattle.c_pre.specs.Carrying.{Setting, State, start, effect, Carries}
use Rattle.c_pre.specs.Views.{tokens_of, end_flags, IsDone, IsStopped}
use Rattle.c_pre.proofs.Carried.{Completes, completes_more, completes_stop}
use Rattle.c_pre.proofs.Flags.{behind, behind_more, flag_here}

pub line_stops : (setting : Setting) (flags : List Bool) (lines : List Line) (i : ℕ) (d : Bool) (e : Line) (state : State) (error : PreError) (old : List Token) →
    flags ≡ end_flags setting.bytes (map tokens_of lines) → i < length lines →
    IsStopped setting state (tokens_of (get_or lines i e))
    (effect setting state (get_or flags i d) (number_of (tokens_of (get_or lines i e))) (arguments (tokens_of (get_or lines i e))) (directive_of setting.bytes (tokens_of (get_or lines i e)))) error old →
    Completes setting (map tokens_of lines) (behind i lines) state old → (given : List Token) × Carries setting (map tokens_of lines) start 0 given (Some error)
line_stops setting flags lines i d e state error old f l s h =
    let line = tokens_of (get_or lines i e) in
    let stopped = subst (λ (b : Bool). IsStopped setting state line (effect setting state b (number_of line) (arguments line) (directive_of setting.bytes line)) error old) (flag_here setting.bytes flags lines i d f l) s in
    let from = subst (λ (ls : List (List Token)). Completes setting (map tokens_of lines) ls state old) (behind_more lines i e l) h in
    completes_stop setting (map tokens_of lines) line (behind (i + 1) lines) state error old stopped from

pub line_done : (setting : Setting) (flags : List Bool) (lines : List Line) (i : ℕ) (d : Bool) (e : Line) (state next : State) (old new : List Token) →
    flags ≡ end_flags setting.bytes (map tokens_of lines) → i < length lines →
    IsDone setting state (tokens_of (get_or lines i e))
    (effect setting state (get_or flags i d) (number_of (tokens_of (get_or lines i e))) (arguments (tokens_of (get_or lines i e))) (directive_of setting.bytes (tokens_of (get_or lines i e)))) next old new →
    length new ≤ 200000 → Completes setting (map tokens_of lines) (behind i lines) state old → Completes setting (map tokens_of lines) (behind (i + 1) lines) next new
line_done setting flags lines i d e state next old new f l s few h =
    let line = tokens_of (get_or lines i e) in
    let is = subst (λ (b : Bool). IsDone setting state line (effect setting state b (number_of line) (arguments line) (directive_of setting.bytes line)) next old new) (flag_here setting.bytes flags lines i d f l) s in
    let from = subst (λ (ls : List (List Token)). Completes setting (map tokens_of lines) ls state old) (behind_more lines i e l) h in
    completes_more setting (map tokens_of lines) line (behind (i + 1) lines) state next old new is few from
