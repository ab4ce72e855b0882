mod OwnCursors
