-- waits page == the bytes that wait to be written: the first used of the page
use Rattle.std.specs.Prelude.{List, ℕ, take}
use Rattle.page.specs.declared.Page.{Page}

abbrev pub waits : {W : Type 0} {N : ℕ} → Page W N → List ℕ
waits page = take page.used page.bytes
