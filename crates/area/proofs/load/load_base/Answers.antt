-- `area::load::load_base` meets its contract: a table alone is a table with no operations, and what is laid is linked.
use mathlib.Core.List.{List, []}
use mathlib.Core.Path.{◌≡◌, sym, ap, ◌∙◌}
use Prim.Native.Nat.{ℕ, ◌*◌}
use native.Mathlib.Nat.{add-zero}
use lib.ListN.{take, take-append-drop}
use Rattle.slices.specs.Laid.{laid}
use Rattle.slices.specs.Over.{over}
use Rattle.slices.proofs.Laid.{laid_over}
use Rattle.area.specs.Verdicts.{Said}
use Rattle.area.specs.Load.{given, blank, links, loads_base}
use Rattle.area.proofs.load.load_base.Goals as goal

module _ (D : ℕ) (t w : List ℕ) where
  table_alone : given D 0 t [] w ≡ laid w 0 (take D t)
  unfolding given laid
  table_alone = rw (add-zero (3 * D)) (take-append-drop (3 * D) (laid w 0 (take D t)))

  base_linked : {u v : List ℕ} {a : Said} → u ≡ over (take D t) w → v ≡ blank D u → a ≡ links D 0 v 0 D → a ≡ loads_base D t w
  unfolding loads_base
  base_linked lies blanked linked =
      linked ∙ ap (λ l. links D 0 l 0 D) (blanked ∙ ap (blank D) (lies ∙ sym (laid_over w (take D t)) ∙ sym table_alone))

pub returns : goal.returns
returns c = base_linked _ _ _ c.copy.ensures c.forget.ensures c.test.ensures
