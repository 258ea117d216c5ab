-- Lent tables read as a mesh.
use Rattle.mesh.specs.Causes.{mesh_of}
use Rattle.mesh.specs.Mesh.{Mesh}
use Rattle.tables.specs.declared.lent.Tables.{Tables}

-- the mesh of four lent tables
abbrev pub mesh : Tables → Mesh
mesh t = mesh_of t.corners.now t.friends.now t.marks.now t.starts.now
