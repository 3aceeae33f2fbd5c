mod CommentScans
