-- A new history holds no inks: the proof picks them.
use Rattle.std.proofs.Common.{List, [], ◌∷◌, refl}
use Rattle.std.proofs.raw_atomic.Walks.{proved}
use base.Fml.{ftrue}
use types.Kit.{‵, raw, ◌$◌, ◌∵◌, !, qed, done, drop, fjoin, fpack, feq_i, suffices}
use mir.Val.{Val, vstruct, vnil}
use types.Part.{agg}
use types.Run.{enter, returns, no_more}
use types.ByLocal.{alloc_all, pass_all, free_all, look_at, sets}
use denote.RattleType.{Valss}
use denote.Steps.{nothing}
use denote.Struct.Struct.{within}
use denote.Triple.Entry.{on_entry}
use denote.Triple.Walked.{says, Stays, walk_of, ends_at}
use Rattle.canvas.specs.contracts.history.History as History
use Rattle.canvas.specs.contracts.history.History.new as f
use Rattle.canvas.proofs.history.History.new.Statement.{statement}
use Rattle.canvas.proofs.history.History.new.Code as code

-- a history has no field at run time, so its memory is that of an empty struct
abbrev memory : List Val
memory = vstruct vnil ∷ []

abbrev stayed : Stays f.ended.signature.params f.ended.kept
stayed = tt

pub new_spec : {M : Type 1} → statement M
new_spec 𝓤 𝓛 𝓜 𝓡 wired =
    let c = f.clauses 𝓛 𝓜.mem 𝓡.returns in
    let W = walk_of 𝓛 f.ended stayed c in
    proved 𝓛 f.ended stayed c 𝓜 𝓡 tt
    f.Key.name code.function (code.unfolded 𝓤 𝓛.H 𝓜 𝓡 wired)
    (λ κs. tt) (λ κs. tt) (λ κs qs bounds a _ are.
    let y : W.Ghost = ((κs, qs, bounds, a, tt), tt) in
    let made : (History.the_row).Denot = record { inks = [] } in
    qed 𝓛 (raw (on_entry 𝓛 f.signature κs qs a y.0.4) ∷ ‵ ftrue ∷ []) ∵ drop ! $ drop ! $
    enter ! _ _ _ _ _ $ alloc_all ! (λ l. pass_all ! refl tt $
    sets ! (agg ! (no_more !)) refl (tt, tt) $
    nothing ! $
    nothing ! $ feq_i ! (List Val) memory memory refl $ fjoin ! $ fpack ! (Valss []) (within (record { name = []; args = []; types = []; fields = [] }) tt memory) tt $
    fjoin ! $
    returns ! (look_at ! 0 refl) $ free_all ! refl $
    suffices ! _ (ends_at 𝓛 f.ended stayed c y (vstruct vnil) made tt tt) $ says ! refl $
    nothing ! $ nothing ! $ done !))
